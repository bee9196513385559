use Rattle.std.proofs.Common.{subst}
use Rattle.mount_model.specs.History.{told_tree_after}
use Rattle.drain_sound.specs.Fronts.{IsTarget}
use Rattle.mount_sound.proofs.Facts.{one_tree}
use Rattle.drain_sound.proofs.ReadingLemmas.{reading_stays}
use Rattle.drain_sound.proofs.laws.readers_keep_the_target.Goals as goal

pub returns : goal.returns
returns c source number name tree after start events t told legal reads now = subst (IsTarget source number name) (one_tree tree after (told_tree_after start events) (reading_stays start events tree legal reads told) now) t
