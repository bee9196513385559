-- Why a check was broken off.
use Rattle.std.specs.Prelude.{◌≡◌, ◌⊎◌}
use Rattle.plfs_types.specs.Counts.{HasRisen}
use Rattle.store_api.specs.declared.tree.Tree.{Tree}
use Rattle.store_api.specs.Acts.{Stored}
use Rattle.shape_check.specs.declared.finding.Finding.{Finding}
use Rattle.shape_check.specs.declared.finding.Finding.TheVariants as finding
use Rattle.shape_check.specs.Seeing.{IsSeen}
use Rattle.tree_check.specs.declared.halting.Halt.{Halt}
use Rattle.tree_check.specs.declared.halting.Halt.TheVariants.{Fault, NoMemory, Untold}

-- what was found where it was
abbrev pub finding_of_halt : Halt → Finding
finding_of_halt Fault = finding.Fault
finding_of_halt NoMemory = finding.NoMemory
finding_of_halt Untold = finding.Untold

-- memory was refused, or that was found
abbrev pub IsHaltOf : Finding → Halt → Type 0
IsHaltOf found halt = (halt ≡ NoMemory) ⊎ (found ≡ finding_of_halt halt)

-- A fault comes only where the count rose, and a store that tells a tree of this property answers.
pub record Halts (P : Tree → Type 0) (old new : Stored) (halt : Halt) : Type 0 where
  pub cause : halt ≡ Fault → HasRisen old.faults new.faults
  pub told : (tree : Tree) → IsSeen old tree → P tree → halt ≡ Untold → ⊥
