-- What a loss of power takes from a sound mount: nothing that was kept.
use Rattle.std.specs.Prelude.{◌≡◌, ◌≤◌, ℕ, List, Some, slice_get}
use Rattle.container_layout.specs.declared.items.Item.TheVariants.{Index}
use Rattle.store_api.specs.declared.tree.Room.{Room}
use Rattle.store_api.specs.declared.tree.Tree.{Tree}
use Rattle.mount_sound.specs.Ledger.{Ledger}
use Rattle.mount_sound.specs.Items.{HasItem}
use Rattle.mount_sound.specs.There.{landed_in}
use Rattle.mount_sound.specs.Sound.{IsSoundTree}
use Rattle.mount_sound.specs.Growing.{IsMore}
use Rattle.mount_sound.specs.Keeping.{kept_in}

-- in each room as many entries of each index dropping have landed as were kept with their bytes
abbrev pub HasKept : Tree → Tree → Type 0
HasKept tree new = (number : ℕ) (room left : Room) → slice_get tree.rooms number ≡ Some room → slice_get new.rooms number ≡ Some left
    → (host writer : ℕ) (bytes : List ℕ) → HasItem room (Index host writer) bytes → kept_in room host writer ≤ landed_in left host writer

-- The tree that is left is sound for the first of the writes that were issued, and has all that was kept.
pub record LosesUnkept (issued : Ledger) (tree new : Tree) : Type 0 where
  pub sound : IsSoundTree new
  pub first : (number writer : ℕ) → IsMore (sound.issued number writer) (issued number writer)
  pub kept : HasKept tree new
