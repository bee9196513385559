-- What a loss of power leaves of a writer that was synced.
use Rattle.std.specs.Prelude.{◌≡◌, ◌≤◌, ℕ, Some, slice_get}
use Rattle.store_api.specs.declared.tree.Room.{Room}
use Rattle.store_api.specs.declared.tree.Tree.{Tree}
use Rattle.mount_model.specs.declared.row.Row.{Row}
use Rattle.mount_model.specs.State.{State}
use Rattle.mount_sound.specs.Ledger.{Ledger}
use Rattle.mount_sound.specs.There.{landed_in}
use Rattle.mount_losses.specs.Losing.{LosesUnkept}
use Rattle.writer_laws.specs.Knowing.{HasRow}

-- The tree that is left is sound, and so many entries of the writer that the caller had then have landed in it.
pub record Survives (caller writer count : ℕ) (issued : Ledger) (then : State) (tree lost : Tree) : Type 0 where
  pub left : LosesUnkept issued tree lost
  pub has : (row : Row) (room : Room) → HasRow caller writer row then → slice_get lost.rooms row.room ≡ Some room → count ≤ landed_in room row.host writer
