-- The cases of a step within a room, and on a file of it.
use Rattle.std.proofs.Common.{◌≡◌, ℕ, Bool, true, false, List, slice_get, Option, Some, None, refl, ap, sym, ◌∙◌}
use Rattle.plfs_types.specs.declared.names.Path.{Path}
use Rattle.store_api.specs.declared.tree.File.{File}
use Rattle.store_api.specs.declared.tree.Room.{Room}
use Rattle.store_api.specs.declared.tree.Tree.{Tree}
use Rattle.store_api.specs.declared.step.Answer.{Answer}
use Rattle.store_api.specs.declared.step.Answer.TheVariants.{Absent, NoRoom, NoFolder}
use Rattle.store_api.specs.Step.{Name}
use Rattle.store_api.specs.Room.{Outcome, stays, has_folder, place_of, file_in, in_folder, or_absent, at_place, in_file, is_at}
use Rattle.store_api.specs.Effect.{Effect, stays as tree_stays, room_after, or_no_room, in_room}
use Rattle.store_api.proofs.Facts.{position_is, found_at_place}
use Rattle.store_laws.specs.Changes.{with_room}
use Rattle.store_laws.specs.Outcomes.{Stays}
use Rattle.store_laws.proofs.Names.Places.{slice_set_same, item}
use Rattle.store_laws.proofs.Names.Searches.{find_unplaced}
use Rattle.store_laws.proofs.Steps.Rooms.{found_has_path}

by_room : (tree : Tree) (n : ℕ) (outcome : Room → Outcome) (P : Effect → Type 0) (found : Option Room) → slice_get tree.rooms n ≡ found
    → (slice_get tree.rooms n ≡ None → P (tree_stays tree NoRoom))
    → ((room : Room) → slice_get tree.rooms n ≡ Some room → P (room_after tree n (outcome room)))
    → P (or_no_room tree n outcome found)
by_room tree n outcome P None e none some = none e
by_room tree n outcome P (Some room) e none some = some room e

-- there is no room of this number, or the step is made in it
pub room_cases : (tree : Tree) (n : ℕ) (outcome : Room → Outcome) (P : Effect → Type 0)
    → (slice_get tree.rooms n ≡ None → P (tree_stays tree NoRoom))
    → ((room : Room) → slice_get tree.rooms n ≡ Some room → P (room_after tree n (outcome room)))
    → P (in_room tree n outcome)
room_cases tree n outcome P none some = by_room tree n outcome P (slice_get tree.rooms n) refl none some

by_folder : (room : Room) (folder : Name) (outcome : Outcome) (P : Outcome → Type 0) (found : Bool) → has_folder room folder ≡ found
    → (has_folder room folder ≡ false → P (stays room NoFolder))
    → (has_folder room folder ≡ true → P outcome)
    → P (in_folder room folder outcome)
by_folder room folder outcome P true e none some = rw e (some e)
by_folder room folder outcome P false e none some = rw e (none e)

-- the folder isn't there, or the step is made in it
pub folder_cases : (room : Room) (folder : Name) (outcome : Outcome) (P : Outcome → Type 0)
    → (has_folder room folder ≡ false → P (stays room NoFolder))
    → (has_folder room folder ≡ true → P outcome)
    → P (in_folder room folder outcome)
folder_cases room folder outcome P none some = by_folder room folder outcome P (has_folder room folder) refl none some

-- a file that is found, with its place in the list
pub record FoundAt (room : Room) (path : Path) (place : ℕ) (file : File) : Type 0 where
  pub placed : place_of room path.folder path.file ≡ Some place
  pub stands : slice_get room.files place ≡ Some file
  pub found : file_in room path.folder path.file ≡ Some file
  pub has_path : file.path ≡ path

stands_found : (room : Room) (path : Path) (place : ℕ) (file : File) → place_of room path.folder path.file ≡ Some place → slice_get room.files place ≡ Some file → FoundAt room path place file
stands_found room path place file at e =
    let is : file_in room path.folder path.file ≡ Some file = sym (found_at_place room path.folder path.file place at) ∙ e in
    record { placed = at; stands = e; found = is; has_path = found_has_path room path file is }

-- at the place that a search gives there is a file
pub placed_file : (room : Room) (path : Path) (place : ℕ) → place_of room path.folder path.file ≡ Some place → (file : File) × FoundAt room path place file
placed_file room path place at =
    let within = (position_is (is_at path.folder path.file) room.files place at).1 in
    let file = item room.files place within in
    (file.0, stands_found room path place file.0 at file.1)

by_file : (room : Room) (path : Path) (place : ℕ) (outcome : ℕ → File → Outcome) (P : Outcome → Type 0) (found : Option File) → place_of room path.folder path.file ≡ Some place → slice_get room.files place ≡ found
    → (file_in room path.folder path.file ≡ None → P (stays room Absent))
    → ((place : ℕ) (file : File) → FoundAt room path place file → P (outcome place file))
    → P (or_absent room found (outcome place))
by_file room path place outcome P None at e none some = none (sym (found_at_place room path.folder path.file place at) ∙ e)
by_file room path place outcome P (Some file) at e none some =
    some place file (stands_found room path place file at e)

by_place : (room : Room) (path : Path) (outcome : ℕ → File → Outcome) (P : Outcome → Type 0) (place : Option ℕ) → place_of room path.folder path.file ≡ place
    → (file_in room path.folder path.file ≡ None → P (stays room Absent))
    → ((place : ℕ) (file : File) → FoundAt room path place file → P (outcome place file))
    → P (at_place room place outcome)
by_place room path outcome P None e none some = none (find_unplaced (is_at path.folder path.file) room.files e)
by_place room path outcome P (Some place) e none some = by_file room path place outcome P (slice_get room.files place) e refl none some

-- the folder isn't there, or has no such file, or the step is made at the file
pub file_cases : (room : Room) (path : Path) (outcome : ℕ → File → Outcome) (P : Outcome → Type 0)
    → (has_folder room path.folder ≡ false → P (stays room NoFolder))
    → (has_folder room path.folder ≡ true → file_in room path.folder path.file ≡ None → P (stays room Absent))
    → ((place : ℕ) (file : File) → has_folder room path.folder ≡ true → FoundAt room path place file → P (outcome place file))
    → P (in_file room path.folder path.file outcome)
file_cases room path outcome P no_folder none some =
    folder_cases room path.folder (at_place room (place_of room path.folder path.file) outcome) P no_folder
    (λ there. by_place room path outcome P (place_of room path.folder path.file) refl (none there) (λ place file found. some place file there found))

-- a room that is put where it stands changes nothing
pub same_room : (tree : Tree) (n : ℕ) (room : Room) → slice_get tree.rooms n ≡ Some room → with_room tree n room ≡ tree
same_room tree n room e = ap (λ rooms. with_rooms rooms) (slice_set_same tree.rooms n room e)
  where
    with_rooms : List Room → Tree
    with_rooms rooms = record { rooms = rooms }

-- a step that leaves its room leaves the tree
pub stays_in : (tree : Tree) (n : ℕ) (room : Room) (answer change : Answer) (says : Answer → Type 0) → slice_get tree.rooms n ≡ Some room → (answer ≡ change → ⊥) → says answer → Stays tree change says (room_after tree n (stays room answer))
stays_in tree n room answer change says e unmade why = record { same = same_room tree n room e; unmade = unmade; why = why }
