use Rattle.std.proofs.Common.{◌≡◌, subst, sym}
use Rattle.std.specs.Prelude.{IfOk, IfSome, Some}
use Rattle.mount_model.specs.Standing.{next_of}
use Rattle.migrate_core.specs.declared.stage.Stage.{Stage}
use Rattle.migrate_core.specs.Stages.{migrating}
use Rattle.migrate_core.proofs.stage.Stage.give.Goals as goal

pub returns-in-Scanning-clause-again : goal.returns-in-Scanning-clause-again
returns-in-Scanning-clause-again c =
    subst (λ (s : Stage). IfOk c.give_scan.result (λ given. IfSome (next_of (migrating given.0)) (λ call. next_of (migrating s) ≡ Some call))) (sym c.in-Scanning.is) c.give_scan.ensures.again
