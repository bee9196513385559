use Rattle.std.proofs.Common.{ap, ◌∙◌}
use Rattle.std.specs.Prelude.{Result}
use Rattle.mount_model.specs.declared.stuck.Stuck.{Stuck}
use Rattle.mount_model.specs.Standing.{Standing, ready}
use Rattle.mount_model.specs.Composed.{then_on}
use Rattle.mount_model.specs.declared.call.Call.{Call}
use Rattle.mount_model.specs.declared.reply.Reply.{Reply}
use Rattle.flatten_core.specs.Flattening.{tells}
use Rattle.flatten_core.specs.Stages.{installing}
use Rattle.mount_model.proofs.Flows.Composing.{reply_then}
use Rattle.flatten_core.proofs.parts.after_end.Goals as goal

pub returns-clause-goes_on : goal.returns-clause-goes_on
returns-clause-goes_on c =
    c.end_on.ensures.goes_on
    ∙ ap (λ (s : Standing Call Reply (Result (Unit {0}) Stuck)). then_on s (tells c.args.told)) c.in_ok-stage.ensures.goes_on
    ∙ ap ready (reply_then (tells c.args.told) (installing c.args.started.room c.args.started.flat c.args.stage) c.args.reply c.requires.awaits)
