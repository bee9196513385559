use Rattle.std.proofs.Common.{ap, sym, ◌∙◌}
use Rattle.mount_model.specs.Program.{followed_by}
use Rattle.mount_model.specs.Standing.{ready}
use Rattle.mount_model.specs.FlowReplies.{on_ok}
use Rattle.index_reader.specs.OpenStages.{after_open}
use Rattle.migrate_core.specs.Migrating.{migrates_listed}
use Rattle.migrate_core.proofs.going.after_scan.Goals as goal

pub returns-in-GoesOn-clause-goes_on : goal.returns-in-GoesOn-clause-goes_on
returns-in-GoesOn-clause-goes_on c =
    ap (λ p. ready (followed_by p (on_ok (migrates_listed c.args.room c.args.metas)))) (sym (ap after_open c.in-GoesOn.is) ∙ c.in_ok-scan.ensures.goes_on)
