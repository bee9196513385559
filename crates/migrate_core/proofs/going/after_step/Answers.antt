use Rattle.mount_model.specs.FlowReplies.{on_ok}
use Rattle.migrate_core.specs.declared.stage.Underway.{Underway}
use Rattle.migrate_core.specs.Counting.{noted}
use Rattle.migrate_core.specs.Migrating.{migrates}
use Rattle.migrate_core.proofs.StepLemmas.{taken_later}
use Rattle.migrate_core.proofs.going.after_step.Goals as goal

pub returns-clause-goes_on : goal.returns-clause-goes_on
returns-clause-goes_on c =
    let u : Underway = c.args.current in
    taken_later u.room u.meta u.step (on_ok (λ fate. migrates u.room u.rest (noted fate u.tally.sofar))) c.args.reply _ _ c.in_ok-after.ensures.goes_on c.goes_on.ensures.goes_on
