-- Where the stages stand in the program.
use Rattle.std.specs.Prelude.{ℕ, Result}
use Rattle.mount_model.specs.declared.stuck.Stuck.{Stuck}
use Rattle.mount_model.specs.Program.{done}
use Rattle.mount_model.specs.Standing.{Standing, ready}
use Rattle.mount_model.specs.declared.call.Call.{Call}
use Rattle.mount_model.specs.declared.reply.Reply.{Reply}
use Rattle.mount_model.specs.FlowReplies.{Tries}
use Rattle.attr_flow.specs.declared.attr_flow.AttrOut.{AttrOut}
use Rattle.attr_flow.specs.declared.attr_flow.AttrFlow.{AttrFlow}
use Rattle.attr_flow.specs.declared.attr_flow.Stage.{Stage}
use Rattle.attr_flow.specs.declared.attr_flow.Stage.TheVariants.{Finding, ListingOpen, ListingMetadata, ListingTruncs, Ended}
use Rattle.attr_flow.specs.Asking.{attr_program, lists_open, lists_metadata, lists_truncs}

abbrev pub asking : Stage → Tries AttrOut
asking (Finding name) = attr_program name
asking (ListingOpen room) = lists_open room
asking (ListingMetadata room) = lists_metadata room
asking (ListingTruncs room metas) = lists_truncs room metas
asking (Ended outcome) = done outcome

abbrev pub calls_left : Stage → ℕ
calls_left (Finding name) = 4
calls_left (ListingOpen room) = 3
calls_left (ListingMetadata room) = 2
calls_left (ListingTruncs room metas) = 1
calls_left (Ended outcome) = 0

abbrev pub attr_standing : AttrFlow → Standing Call Reply (Result AttrOut Stuck)
attr_standing flow = ready (asking flow.stage)

abbrev pub attr_left : AttrFlow → ℕ
attr_left flow = calls_left flow.stage
