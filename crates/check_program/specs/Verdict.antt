-- What a status says.
use Rattle.std.specs.Prelude.{◌≡◌, ◌⊎◌, ℕ, Option, Some}
use Rattle.plfs_types.specs.Counts.{HasRisen}
use Rattle.store_api.specs.declared.tree.Tree.{Tree}
use Rattle.store_api.specs.Acts.{Stored}
use Rattle.tree_laws.specs.Listable.{IsListable}
use Rattle.program_ends.specs.Ends.{Ends}

-- the store tells this tree, which listings show whole
pub record Tells (stored : Stored) (tree : Tree) : Type 0 where
  pub tells : stored.tree ≡ Some tree
  pub listable : IsListable tree

-- the store is handed back, and tells what it told
abbrev pub IsUnchanged : Stored → Option Stored → Type 0
IsUnchanged stored left = (after : Stored) × (left ≡ Some after) × (after.tree ≡ stored.tree)

-- it is handed back, and has failed
abbrev pub HasFailed : Stored → Option Stored → Type 0
HasFailed stored left = (after : Stored) × (left ≡ Some after) × HasRisen stored.faults after.faults

-- no count of the sink or of the store has risen
pub record WorkedWell (e : Ends) : Type 0 where
  pub sink : HasRisen e.taking.faults e.taking_after.faults → ⊥
  pub stalls : HasRisen e.taking.stalls e.taking_after.stalls → ⊥
  pub store : HasFailed e.stored e.stored_after → ⊥

-- a verdict was told, or there is no such room, or the words are no command, or memory was refused
abbrev pub IsVerdict : ℕ → Type 0
IsVerdict status = (status ≡ 0) ⊎ (status ≡ 7) ⊎ (status ≡ 1) ⊎ (status ≡ 2) ⊎ (status ≡ 3)
