use Rattle.std.proofs.Common.{ap, ◌∙◌}
use Rattle.mount_model.specs.Program.{followed_by}
use Rattle.mount_model.specs.Standing.{ready}
use Rattle.mount_model.specs.FlowReplies.{Tries, on_ok}
use Rattle.flatten_core.specs.declared.starting.Started.{Started}
use Rattle.flatten_core.specs.Flattening.{lists}
use Rattle.flatten_core.specs.StartStages.{starting}
use Rattle.mount_model.proofs.Flows.Composing.{reply_then}
use Rattle.flatten_core.proofs.parts.after_start.Goals as goal

pub returns-clause-goes_on : goal.returns-clause-goes_on
returns-clause-goes_on c =
    c.start_on.ensures.goes_on
    ∙ ap (λ (p : Tries Started). ready (followed_by p (on_ok lists))) c.after.ensures.goes_on
    ∙ ap ready (reply_then (on_ok lists) (ready (starting c.args.stage)) c.args.reply.now c.requires)
