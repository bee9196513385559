use Rattle.mount_sound.proofs.Moments.Growing.{history_issues}
use Rattle.mount_sound.proofs.laws.issues_only_grow.Goals as goal

pub returns : goal.returns
returns c = history_issues
