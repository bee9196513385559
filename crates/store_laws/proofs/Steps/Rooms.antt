-- The files of a room once one of them has changed.
use Rattle.std.proofs.Common.{◌≡◌, ℕ, false, ◌||◌, List, slice_get, Option, Some, None, refl, ap, sym, ◌∙◌, subst}
use Rattle.std.specs.Prelude.{option_map}
use Rattle.std.specs.List.{find, list_any, remove}
use Rattle.plfs_types.specs.declared.names.Path.{Path}
use Rattle.store_api.specs.declared.tree.File.{File}
use Rattle.store_api.specs.declared.tree.Room.{Room}
use Rattle.store_api.specs.Step.{Name}
use Rattle.store_api.specs.Names.{same_name}
use Rattle.store_api.specs.Room.{is_at, is_top, has_folder, place_of, file_in, with_file, with_new_file}
use Rattle.store_api.proofs.Facts.{file_in-with_file, find-set_other}
use Rattle.store_laws.specs.Files.{file_at, kept_of, kept_at, AreTwo, SameButFile}
use Rattle.store_laws.specs.Differ.{is_there, PathsDiffer}
use Rattle.store_laws.proofs.Names.Naming.{at_path, path_at, not_at, two_apart}
use Rattle.store_laws.proofs.Names.Searches.{find_none, none_found, find_removed, find_more, find_new, find_passes}
use Rattle.store_laws.proofs.Names.Differing.{files_more, gone_removed}

-- ---- what is found at a path

pub file_at_found : (room : Room) (path : Path) (file : File) → file_in room path.folder path.file ≡ Some file → file_at room path ≡ Some file.bytes
unfolding file_at
file_at_found room path file e = ap (λ found. option_map (λ (f : File). f.bytes) found) e

pub file_at_none : (room : Room) (path : Path) → file_in room path.folder path.file ≡ None → file_at room path ≡ None
unfolding file_at
file_at_none room path e = ap (λ found. option_map (λ (f : File). f.bytes) found) e

-- nothing but the list of files counts
pub file_at_same : (room new : Room) (path : Path) → new.files ≡ room.files → file_at new path ≡ file_at room path
unfolding file_at
file_at_same room new path e = ap (λ files. option_map (λ (f : File). f.bytes) (find (is_at path.folder path.file) files)) e

pub file_at_alike : (room new : Room) (path : Path) → file_in new path.folder path.file ≡ file_in room path.folder path.file → file_at new path ≡ file_at room path
unfolding file_at
file_at_alike room new path e = ap (λ found. option_map (λ (f : File). f.bytes) found) e

pub kept_at_found : (room : Room) (path : Path) (file : File) → file_in room path.folder path.file ≡ Some file → kept_at room path ≡ file.kept
unfolding kept_at
kept_at_found room path file e = ap kept_of e

pub kept_at_none : (room : Room) (path : Path) → file_in room path.folder path.file ≡ None → kept_at room path ≡ 0
unfolding kept_at
kept_at_none room path e = ap kept_of e

pub kept_at_same : (room new : Room) (path : Path) → new.files ≡ room.files → kept_at new path ≡ kept_at room path
unfolding kept_at
kept_at_same room new path e = ap (λ files. kept_of (find (is_at path.folder path.file) files)) e

pub kept_at_alike : (room new : Room) (path : Path) → file_in new path.folder path.file ≡ file_in room path.folder path.file → kept_at new path ≡ kept_at room path
unfolding kept_at
kept_at_alike room new path e = ap kept_of e

nothing_found : (file : Option File) → option_map (λ (f : File). f.bytes) file ≡ None → file ≡ None
nothing_found None e = refl
nothing_found (Some file) e = absurd (cc)

pub none_in : (room : Room) (path : Path) → file_at room path ≡ None → file_in room path.folder path.file ≡ None
unfolding file_at
none_in room path e = nothing_found (file_in room path.folder path.file) e

something_found : (file : Option File) (bytes : List ℕ) → option_map (λ (f : File). f.bytes) file ≡ Some bytes → (found : File) × (file ≡ Some found) × (found.bytes ≡ bytes)
something_found None bytes e = absurd (cc)
something_found (Some file) bytes e = (file, refl, cc)

pub some_in : (room : Room) (path : Path) (bytes : List ℕ) → file_at room path ≡ Some bytes → (found : File) × (file_in room path.folder path.file ≡ Some found) × (found.bytes ≡ bytes)
unfolding file_at
some_in room path bytes e = something_found (file_in room path.folder path.file) bytes e

pub found_has_path : (room : Room) (path : Path) (file : File) → file_in room path.folder path.file ≡ Some file → file.path ≡ path
found_has_path room path file e = at_path path file (find_passes (is_at path.folder path.file) room.files file e)

-- ---- folders

-- nothing but the list of folders counts
pub has_folder_same : (room new : Room) (folder : Name) → new.folders ≡ room.folders → has_folder new folder ≡ has_folder room folder
has_folder_same room new folder e = ap (λ folders. is_top folder || list_any (λ name. same_name name folder) folders) e

-- ---- a file with other bytes

other_than : (other path : Path) (file : File) → AreTwo other path → file.path ≡ path → is_at other.folder other.file file ≡ false
other_than other path file two e = not_at other file (λ same. two_apart other path two (sym same ∙ e))

pub with_file_others : (room : Room) (path : Path) (place : ℕ) (old file : File) → slice_get room.files place ≡ Some old → old.path ≡ path → file.path ≡ path → SameButFile path room (with_file room place file)
with_file_others room path place old file at was is = record {
  name = refl;
  folders = refl;
  files = λ other two. file_at_alike room (with_file room place file) other
      (find-set_other (is_at other.folder other.file) room.files place old file at (other_than other path old two was) (other_than other path file two is));
  kepts = λ other two. kept_at_alike room (with_file room place file) other
      (find-set_other (is_at other.folder other.file) room.files place old file at (other_than other path old two was) (other_than other path file two is));
}

pub with_file_now : (room : Room) (path : Path) (place : ℕ) (file : File) → place_of room path.folder path.file ≡ Some place → file.path ≡ path → file_at (with_file room place file) path ≡ Some file.bytes
with_file_now room path place file at is = file_at_found (with_file room place file) path file (file_in-with_file room path.folder path.file place file at (path_at path file is))

pub with_file_kept : (room : Room) (path : Path) (place : ℕ) (file : File) → place_of room path.folder path.file ≡ Some place → file.path ≡ path → kept_at (with_file room place file) path ≡ file.kept
with_file_kept room path place file at is = kept_at_found (with_file room place file) path file (file_in-with_file room path.folder path.file place file at (path_at path file is))

-- ---- one more file

pub with_new_file_others : (room : Room) (path : Path) (file : File) → file.path ≡ path → SameButFile path room (with_new_file room file)
with_new_file_others room path file is = record {
  name = refl;
  folders = refl;
  files = λ other two. file_at_alike room (with_new_file room file) other (find_more (is_at other.folder other.file) room.files file (other_than other path file two is));
  kepts = λ other two. kept_at_alike room (with_new_file room file) other (find_more (is_at other.folder other.file) room.files file (other_than other path file two is));
}

pub with_new_file_now : (room : Room) (path : Path) (file : File) → file_in room path.folder path.file ≡ None → file.path ≡ path → file_at (with_new_file room file) path ≡ Some file.bytes
with_new_file_now room path file none is = file_at_found (with_new_file room file) path file (find_new (is_at path.folder path.file) room.files file none (path_at path file is))

pub with_new_file_kept : (room : Room) (path : Path) (file : File) → file_in room path.folder path.file ≡ None → file.path ≡ path → kept_at (with_new_file room file) path ≡ file.kept
with_new_file_kept room path file none is = kept_at_found (with_new_file room file) path file (find_new (is_at path.folder path.file) room.files file none (path_at path file is))

pub with_new_file_differs : (room : Room) (path : Path) (file : File) → file_in room path.folder path.file ≡ None → file.path ≡ path → PathsDiffer room → PathsDiffer (with_new_file room file)
with_new_file_differs room path file none is d =
    files_more room.files file d (subst (λ p. is_there p.folder p.file room.files ≡ false) (sym is) (none_found (is_at path.folder path.file) room.files none))

-- ---- one file less

abbrev pub without : Room → ℕ → Room
without room place = record room { files = remove room.files place }

pub without_others : (room : Room) (path : Path) (place : ℕ) (old : File) → slice_get room.files place ≡ Some old → old.path ≡ path → SameButFile path room (without room place)
without_others room path place old at was = record {
  name = refl;
  folders = refl;
  files = λ other two. file_at_alike room (without room place) other (find_removed (is_at other.folder other.file) room.files place old at (other_than other path old two was));
  kepts = λ other two. kept_at_alike room (without room place) other (find_removed (is_at other.folder other.file) room.files place old at (other_than other path old two was));
}

pub without_gone : (room : Room) (path : Path) (place : ℕ) (old : File) → slice_get room.files place ≡ Some old → old.path ≡ path → PathsDiffer room → file_in (without room place) path.folder path.file ≡ None
without_gone room path place old at was d =
    find_none (is_at path.folder path.file) (remove room.files place)
    (subst (λ p. is_there p.folder p.file (remove room.files place) ≡ false) was (gone_removed room.files place old at d))
