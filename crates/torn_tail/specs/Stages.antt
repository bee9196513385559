-- Where the stages of a recovery stand in its program.
use Rattle.std.specs.Prelude.{ℕ, ◌+◌, ◌*◌, ◌^◌, length, Result}
use Rattle.mount_model.specs.declared.stuck.Stuck.{Stuck}
use Rattle.mount_model.specs.Program.{done, followed_by}
use Rattle.mount_model.specs.Standing.{Standing, ready}
use Rattle.mount_model.specs.declared.call.Call.{Call}
use Rattle.mount_model.specs.declared.reply.Reply.{Reply}
use Rattle.mount_model.specs.FlowReplies.{Tries, on_ok}
use Rattle.torn_tail.specs.declared.recovering.Recovered.{Recovered}
use Rattle.torn_tail.specs.declared.recovering.RecoverFlow.{RecoverFlow}
use Rattle.torn_tail.specs.declared.recovering.Underway.{Underway}
use Rattle.torn_tail.specs.declared.recovering.Stage.{Stage}
use Rattle.torn_tail.specs.declared.recovering.Stage.TheVariants as stage
use Rattle.torn_tail.specs.Recovering.{recover_program, lists_open, mends_hold, recovers, noted}
use Rattle.torn_tail.specs.Steps.{step_program, step_calls}

-- one writer is recovered, and then those that are left
abbrev pub underway : Underway → Tries Recovered
underway u = followed_by (step_program u.room u.entry u.step) (on_ok (λ fate. recovers u.room u.rest (noted u.entry fate u.sofar)))

abbrev pub recovering : Stage → Tries Recovered
recovering (stage.Finding name) = recover_program name
recovering (stage.ListingOpen room) = lists_open room
recovering (stage.MendingHold room) = mends_hold room
recovering (stage.Underway u) = underway u
recovering (stage.Ended outcome) = done outcome

-- a bound on the calls for one writer
abbrev pub writer_calls : ℕ
writer_calls = 2 ^ 64 + 7

abbrev pub calls_left : Stage → ℕ
calls_left (stage.Finding name) = 2 ^ 64 * writer_calls + 2
calls_left (stage.ListingOpen room) = 2 ^ 64 * writer_calls + 1
calls_left (stage.MendingHold room) = 1
calls_left (stage.Underway u) = step_calls u.step + length u.rest * writer_calls
calls_left (stage.Ended outcome) = 0

abbrev pub recover_standing : RecoverFlow → Standing Call Reply (Result Recovered Stuck)
recover_standing flow = ready (recovering flow.stage)

abbrev pub recover_left : RecoverFlow → ℕ
recover_left flow = calls_left flow.stage
