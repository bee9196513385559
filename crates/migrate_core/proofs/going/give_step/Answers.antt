use Rattle.mount_model.specs.FlowReplies.{on_ok}
use Rattle.migrate_core.specs.declared.stage.Underway.{Underway}
use Rattle.migrate_core.specs.Counting.{noted}
use Rattle.migrate_core.specs.Migrating.{migrates}
use Rattle.migrate_core.proofs.StepLemmas.{again_behind, rest_behind}
use Rattle.migrate_core.proofs.going.give_step.Goals as goal

pub returns-clause-rest : goal.returns-clause-rest
returns-clause-rest c =
    let u : Underway = c.args.current in
    rest_behind u.room u.meta c.give-step.result.0 u.step (on_ok (λ fate. migrates u.room u.rest (noted fate u.tally.sofar))) c.give-step.ensures.rest

pub returns-clause-again : goal.returns-clause-again
returns-clause-again c =
    let u : Underway = c.args.current in
    again_behind u.room u.meta c.give-step.result.0 u.step (on_ok (λ fate. migrates u.room u.rest (noted fate u.tally.sofar))) c.give-step.ensures.again
