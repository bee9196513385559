use Rattle.mount_sound.proofs.Facts.{step_fine}
use Rattle.mount_core.proofs.mount.Mount.apply.Goals as goal

pub returns-in-None-clause-fine : goal.returns-in-None-clause-fine
returns-in-None-clause-fine g c = λ may fine. step_fine _ _ c.args.caller c.args.ask.now c.answer.result may (record { does = rw c.in-None.is c.answer.ensures }) fine

pub returns-in-Some-clause-fine : goal.returns-in-Some-clause-fine
returns-in-Some-clause-fine g c = λ may fine. step_fine _ _ c.args.caller c.args.ask.now c.stop.result may (record { does = rw c.in-Some.is c.stop.ensures }) fine
