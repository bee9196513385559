-- What a sound mount has in a container.
use Rattle.std.proofs.Common.{◌≡◌, ℕ, List, Option, Some, None, Bool, true, false, refl, sym, ◌∙◌}
use Rattle.std.specs.Prelude.{slice_get, is_some, ◌||◌}
use Rattle.plfs_types.specs.declared.names.Path.{Path}
use Rattle.container_layout.specs.declared.items.Item.{Item}
use Rattle.container_layout.specs.Paths.{IsIn}
use Rattle.store_api.specs.declared.tree.Room.{Room}
use Rattle.store_api.specs.declared.tree.Tree.{Tree}
use Rattle.store_api.specs.Room.{is_top}
use Rattle.store_laws.specs.Files.{file_at}
use Rattle.store_laws.specs.Differ.{is_listed}
use Rattle.store_laws.specs.There.{AreNamesOf}
use Rattle.mount_model.specs.Paths.{Name}
use Rattle.mount_model.specs.State.{State, last_id}
use Rattle.mount_sound.specs.Container.{IsContainer}
use Rattle.mount_sound.specs.Shape.{IsDrawnBy}
use Rattle.mount_sound.proofs.Shapes.Facts.{container_at, shape_of}
use Rattle.mount_sound.specs.Ledger.{Ledger}
use Rattle.mount_sound.specs.Sound.{IsSoundFor}
use Rattle.mount_undamaged.proofs.Acting.{IsThere, file_there, folder_there}

-- a room other than that of the marks is a container
pub container : (issued : Ledger) (old : State) (s : IsSoundFor issued old) (n : ℕ) → (n ≡ old.marks → ⊥) → (room : Room) → slice_get s.shape.tree.rooms n ≡ Some room → IsContainer (IsDrawnBy (last_id old) s.shape.tree) room
container issued old s n apart room there = container_at (last_id old) old.marks old.mount n s.shape.tree room (shape_of old s.shape) apart there

some_file : (o : Option (List ℕ)) (b : Bool) → b ≡ false → (is_some o || b) ≡ true → (bytes : List ℕ) × (o ≡ Some bytes)
some_file None b no_other e = absurd (cc)
some_file (Some bytes) b no_other e = (bytes, refl)

-- a name that stands in a folder of a container, other than its top, is an item's
pub names_item : (allowed : ℕ → Type 0) (room : Room) (folder : Name) (names : List Name) (name : Name) → IsContainer allowed room → is_top folder ≡ false → AreNamesOf room folder names → is_listed name names ≡ true → (item : Item) × IsIn folder name item
names_item allowed room folder names name c below a listed =
    let path : Path = record { folder = folder; file = name } in
    let entry = some_file (file_at room path) _ (rw below refl) (sym (a.exactly name) ∙ listed) in
    let file = c.files path entry.0 entry.1 in
    (file.item, file.is_at)

-- a file that a container has is there
pub file_in : (allowed : ℕ → Type 0) (tree : Tree) (n : ℕ) (room : Room) (path : Path) (bytes : List ℕ) → IsContainer allowed room → slice_get tree.rooms n ≡ Some room → file_at room path ≡ Some bytes → IsThere tree n path
file_in allowed tree n room path bytes c there file = record {
  housed = folder_there tree n room path.folder there (c.files path bytes file).housed;
  filed = file_there tree n room path bytes there file;
}
