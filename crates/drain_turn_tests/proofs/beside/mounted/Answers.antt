use Rattle.mount_sound.proofs.Facts.{mounted_fine}
use Rattle.drain_turn_tests.proofs.beside.mounted.Goals as goal

pub returns-in-Ok : goal.returns-in-Ok
returns-in-Ok c = mounted_fine 0 _ _ c.in-Ok.mount c.in-Ok.ensures.ok
