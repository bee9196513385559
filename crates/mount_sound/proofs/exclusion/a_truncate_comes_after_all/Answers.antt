use Rattle.mount_sound.proofs.Holds.Excluding.{truncated_above}
use Rattle.mount_sound.proofs.exclusion.a_truncate_comes_after_all.Goals as goal

pub returns : goal.returns
returns c = truncated_above
