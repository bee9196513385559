-- A flattened index, or a packed one, that was installed.
use Rattle.std.specs.Prelude.{◌≡◌, ◌≤◌, ℕ, List, length, Some, slice_get}
use Rattle.store_api.specs.declared.tree.Room.{Room}
use Rattle.store_api.specs.declared.tree.Tree.{Tree}
use Rattle.store_laws.specs.Files.{file_at, kept_at}
use Rattle.mount_model.specs.declared.row.Flattening.{Flattening}
use Rattle.mount_model.specs.declared.row.FlatStage.TheVariants.{Synced}
use Rattle.mount_model.specs.declared.row.Making.{Making}
use Rattle.mount_model.specs.Paths.{installed_item, installed_of, temporary}
use Rattle.mount_model.specs.Table.{flattening_of}
use Rattle.mount_model.specs.State.{State}
use Rattle.mount_sound.specs.Flats.{IsRightFor}
use Rattle.mount_sound.specs.Items.{HasItem}
use Rattle.mount_sound.specs.Owed.{InRoom}

-- The room of this number has the flattened index of this id, or the packed index of the writer, with these bytes. It is
-- right for the room, and no loss of power takes a byte of it.
pub record IsInstalled (tree : Tree) (number : ℕ) (makes : Making) (id : ℕ) (bytes : List ℕ) : Type 0 where
  pub room : Room
  pub there : slice_get tree.rooms number ≡ Some room
  pub has : HasItem room (installed_item makes id) bytes
  pub right : IsRightFor room makes bytes
  pub kept : length bytes ≤ kept_at room (installed_of makes id)

-- The caller's flattening of this id was installed: it is its room's flattened index of the id, or the packed index that
-- it makes, with the bytes that its temporary file had.
pub record HasInstalled (old : State) (caller flat : ℕ) (new : State) : Type 0 where
  pub f : Flattening
  pub its : flattening_of caller Synced flat old.table.flattenings ≡ Some f
  pub bytes : List ℕ
  pub held : InRoom old f.room (λ room. file_at room (temporary f) ≡ Some bytes)
  pub tree : Tree
  pub told : new.store.tree ≡ Some tree
  pub installed : IsInstalled tree f.room f.makes flat bytes
