use Rattle.mount_sound.proofs.Facts.{mounted_fine}
use Rattle.thread_tests.proofs.runs.mounted.Goals as goal

pub returns-in-Ok : goal.returns-in-Ok
returns-in-Ok c = mounted_fine 0 _ _ c.in-Ok.mount c.in-Ok.ensures.ok
