-- Where a first drain may begin.
use Rattle.std.proofs.Common.{ℕ}
use Rattle.plfs_types.specs.Names.{IsLogicalName}
use Rattle.store_api.specs.declared.tree.Tree.{Tree}
use Rattle.store_laws.specs.There.{IsFree}
use Rattle.mount_model.specs.Paths.{Name}
use Rattle.mount_sound.specs.Sound.{IsSoundTree}
use Rattle.reader_laws.specs.Moments.{Moment}
use Rattle.drain_sound.specs.Fronts.{IsTarget}

-- a sound tree without a container of this name
pub first_target : (source : Moment) (number : ℕ) (name : Name) (tree : Tree) → IsLogicalName name → IsSoundTree tree → IsFree tree name → IsTarget source number name tree
first_target source number name tree logical sound free = record {
  logical = logical;
  sound = sound;
  drained = λ n room there named. absurd (free n room there named);
  first = λ n room there named writer. absurd (free n room there named);
}
