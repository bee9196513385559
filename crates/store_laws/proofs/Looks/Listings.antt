-- What a listing of a folder has.
use Rattle.std.proofs.Common.{◌≡◌, Bool, true, false, cond, ◌||◌, ◌&&◌, List, [], ◌∷◌, ◌++◌, map, Some, refl, ap, ◌∙◌, if◌then◌else◌}
use Rattle.std.specs.Prelude.{option_map, is_some}
use Rattle.std.specs.List.{find, filter}
use Rattle.std.proofs.lemmas.List.Folds.{list_any-append}
use Rattle.store_api.specs.declared.tree.File.{File}
use Rattle.store_api.specs.declared.tree.Room.{Room}
use Rattle.store_api.specs.Step.{Name}
use Rattle.store_api.specs.Names.{same_name}
use Rattle.store_api.specs.Room.{is_top, is_in, is_at, folders_in, listing}
use Rattle.store_laws.specs.Files.{file_at}
use Rattle.store_laws.specs.Differ.{is_listed}
use Rattle.store_laws.specs.There.{has_entry, AreNamesOf}
use Rattle.store_laws.proofs.Names.ByteOrder.{listed_in_order, in_order}

-- a file of this folder and name is found where the names of the folder's files have it
listed_files : (folder name : Name) (files : List File) → is_listed name (map (λ (f : File). f.path.file) (filter (is_in folder) files)) ≡ is_some (option_map (λ (f : File). f.bytes) (find (is_at folder name) files))
listed_files folder name [] = refl
listed_files folder name (file ∷ files) =
    elim (is_in folder file) as (λ a. is_listed name (map (λ (f : File). f.path.file) (cond a (file ∷ filter (is_in folder) files) (filter (is_in folder) files))) ≡ is_some (option_map (λ (f : File). f.bytes) (cond (a && same_name file.path.file name) (Some file) (find (is_at folder name) files)))) [
      | true ↦ elim (same_name file.path.file name) as (λ b. (b || is_listed name (map (λ (f : File). f.path.file) (filter (is_in folder) files))) ≡ is_some (option_map (λ (f : File). f.bytes) (cond b (Some file) (find (is_at folder name) files)))) [
        | true ↦ refl
        | false ↦ listed_files folder name files
      ]
      | false ↦ listed_files folder name files
    ]

listed_folders : (room : Room) (folder name : Name) → is_listed name (folders_in room folder) ≡ (is_top folder && is_listed name room.folders)
listed_folders room folder name = elim (is_top folder) as (λ b. is_listed name (if b then room.folders else []) ≡ (b && is_listed name room.folders)) [
  | true ↦ refl
  | false ↦ refl
]

swapped : (a b : Bool) → (a || b) ≡ (b || a)
swapped true true = refl
swapped true false = refl
swapped false true = refl
swapped false false = refl

exactly : (room : Room) (folder name : Name) → is_listed name (listing room folder) ≡ has_entry room folder name
unfolding file_at
exactly room folder name =
    listed_in_order name (folders_in room folder ++ map (λ (f : File). f.path.file) (filter (is_in folder) room.files))
    ∙ list_any-append (λ other. same_name other name) (folders_in room folder) (map (λ (f : File). f.path.file) (filter (is_in folder) room.files))
    ∙ ap (λ b. b || is_listed name (map (λ (f : File). f.path.file) (filter (is_in folder) room.files))) (listed_folders room folder name)
    ∙ ap (λ b. (is_top folder && is_listed name room.folders) || b) (listed_files folder name room.files)
    ∙ swapped (is_top folder && is_listed name room.folders) (is_some (option_map (λ (f : File). f.bytes) (find (is_at folder name) room.files)))

-- a listing has the names of the folder's entries, each once and in order
pub listing_names : (room : Room) (folder : Name) → AreNamesOf room folder (listing room folder)
listing_names room folder = record {
  exactly = λ name. exactly room folder name;
  ordered = in_order (folders_in room folder ++ map (λ (f : File). f.path.file) (filter (is_in folder) room.files));
}
