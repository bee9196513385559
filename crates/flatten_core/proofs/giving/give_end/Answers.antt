use Rattle.std.proofs.Common.{ap, sym, ◌∙◌}
use Rattle.mount_model.specs.Composed.{is_awaiting}
use Rattle.flatten_core.specs.Flattening.{tells}
use Rattle.flatten_core.specs.Stages.{installing}
use Rattle.mount_model.proofs.Flows.Composing.{again_then, next_then, same_rest}
use Rattle.flatten_core.proofs.giving.give_end.Goals as goal

pub returns-clause-call : goal.returns-clause-call
returns-clause-call c = c.in_ok-stage.ensures.call ∙ sym (next_then (tells c.args.told) (installing c.args.started.room c.args.started.flat c.args.stage) c.requires.awaits)

pub returns-clause-rest : goal.returns-clause-rest
returns-clause-rest c = same_rest (tells c.args.told) (installing c.args.started.room c.args.started.flat c.in_ok-stage.stage) (installing c.args.started.room c.args.started.flat c.args.stage) c.in_ok-stage.ensures.rest

pub returns-clause-again : goal.returns-clause-again
returns-clause-again c =
    again_then (tells c.args.told) (installing c.args.started.room c.args.started.flat c.in_ok-stage.stage) (installing c.args.started.room c.args.started.flat c.args.stage)
    (ap is_awaiting c.in_ok-stage.ensures.rest ∙ c.requires.awaits) c.requires.awaits c.in_ok-stage.ensures.again

pub returns-clause-underway : goal.returns-clause-underway
returns-clause-underway c = (c.in_ok-stage.ensures.underway, ap is_awaiting c.in_ok-stage.ensures.rest ∙ c.requires.awaits)
