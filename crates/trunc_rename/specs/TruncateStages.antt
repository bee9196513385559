-- Where the stages of a truncate stand in its program.
use Rattle.std.specs.Prelude.{ℕ, Result}
use Rattle.mount_model.specs.declared.stuck.Stuck.{Stuck}
use Rattle.mount_model.specs.Program.{done}
use Rattle.mount_model.specs.Standing.{Standing, ready}
use Rattle.mount_model.specs.declared.call.Call.{Call}
use Rattle.mount_model.specs.declared.reply.Reply.{Reply}
use Rattle.mount_model.specs.FlowReplies.{Tries}
use Rattle.trunc_rename.specs.declared.truncating.TruncFlow.{TruncFlow}
use Rattle.trunc_rename.specs.declared.truncating.Stage.{Stage}
use Rattle.trunc_rename.specs.declared.truncating.Stage.TheVariants.{Finding, Holding, ListingMetadata, ListingTruncs, Marking, Releasing, Ended}
use Rattle.trunc_rename.specs.Holding.{holds, lets_go}
use Rattle.trunc_rename.specs.Truncating.{truncate_program, lists_metadata, lists_truncs, marks}

abbrev pub truncating : ℕ → Stage → Tries ℕ
truncating size (Finding name) = truncate_program name size
truncating size (Holding room) = holds room (lists_metadata size room)
truncating size (ListingMetadata room holder) = lists_metadata size room holder
truncating size (ListingTruncs room holder top) = lists_truncs size room holder top
truncating size (Marking holder top) = marks size holder top
truncating size (Releasing holder outcome) = lets_go holder outcome
truncating size (Ended outcome) = done outcome

abbrev pub calls_left : Stage → ℕ
calls_left (Finding name) = 6
calls_left (Holding room) = 5
calls_left (ListingMetadata room holder) = 4
calls_left (ListingTruncs room holder top) = 3
calls_left (Marking holder top) = 2
calls_left (Releasing holder outcome) = 1
calls_left (Ended outcome) = 0

abbrev pub truncate_standing : TruncFlow → Standing Call Reply (Result ℕ Stuck)
truncate_standing flow = ready (truncating flow.size flow.stage)

abbrev pub truncate_left : TruncFlow → ℕ
truncate_left flow = calls_left flow.stage
