use Rattle.mount_undamaged.proofs.Steps.{step_shows}
use Rattle.mount_undamaged.proofs.laws.a_sound_mount_shows_no_damage.Goals as goal

pub returns : goal.returns
returns c = step_shows
