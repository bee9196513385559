-- What no loss of power takes of what a drain has copied, at its source and at its target.
use Rattle.std.specs.Prelude.{◌≡◌, ◌⊎◌, ℕ, Some, slice_get}
use Rattle.store_api.specs.declared.tree.Room.{Room}
use Rattle.store_api.specs.declared.tree.Tree.{Tree}
use Rattle.store_api.specs.Acts.{Stored}
use Rattle.store_api.specs.Loss.{Loses}
use Rattle.mount_model.specs.Paths.{Name}
use Rattle.reader_laws.specs.Moments.{Moment}
use Rattle.drain_sound.specs.Kept.{IsKeptThere}
use Rattle.drain_sound.specs.Steps.{IsNamedRoom}

-- No loss of power at the source takes what the target has: its files reach no further than the entries, and their bytes, that the
-- source's room keeps.
abbrev pub IsKeptBySource : Moment → ℕ → Name → Stored → Type 0
IsKeptBySource source number name store = (left : Tree) (there : Room) (tree : Tree) (n : ℕ) (room : Room) → source.state.store.tree ≡ Some left → slice_get left.rooms number ≡ Some there → store.tree ≡ Some tree → IsNamedRoom tree n name room → IsKeptThere source number there room

-- the store tells this tree, or one of which a loss of power leaves it
pub record IsLeftOf (store : Stored) (tree : Tree) : Type 0 where
  pub told : Tree
  pub tells : store.tree ≡ Some told
  pub left : (tree ≡ told) ⊎ Loses told tree
