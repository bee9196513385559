-- How a room is made: it is built in a folder of ROOT that is no room, and then that folder gets the room's name.
use Rattle.std.specs.Prelude.{◌≡◌, ℕ, List, [], ◌∷◌, Bool, true, Option, Some, None, Result, Ok}
use Rattle.folder_calls.specs.declared.failure.Failure.{Failure}
use Rattle.folder_calls.specs.declared.reason.Kind.TheVariants.{File}
use Rattle.folder_calls.specs.Calls.{Log, Makes, looked_at, created_file, synced_file, made_folder, synced_folder, renamed_item}
use Rattle.store_folder.specs.ForEach.{ForEach}
use Rattle.store_folder.specs.Leftovers.{Tries, PassesBy}
use Rattle.store_folder.specs.Paths.{item_of, building_path}

module _ {F : Type 0} where
  -- a folder of the new room was made and synced: it is new, or its name stood in the list before
  abbrev pub BuildsFolder : List ℕ → List ℕ → Log F → Log F → Type 0
  BuildsFolder new name log later =
      (is_new : Bool) × Makes (made_folder (item_of new name) (Ok is_new) ∷ synced_folder (item_of new name) (Ok tt) ∷ []) log later

  -- an empty file was made at this path and synced, or a file was found there
  abbrev pub PutsFile : List ℕ → Option F → Log F → Log F → Type 0
  PutsFile path (Some made) log later = Makes (created_file path (Ok (Some made)) ∷ synced_file made (Ok tt) ∷ []) log later
  PutsFile path None log later = (len : ℕ) × Makes (created_file path (Ok None) ∷ looked_at path (Ok (File len)) ∷ []) log later

  -- an empty file of the new room was made and synced: it is new, or its name stood in the list before
  abbrev pub BuildsFile : List ℕ → List ℕ → Log F → Log F → Type 0
  BuildsFile new name log later = (made : Option F) × PutsFile (item_of new name) made log later

  -- the folder was made in which the room is built: the first that is free
  pub record TakesPlace (root new : List ℕ) (log later : Log F) : Type 0 where
    pub k : ℕ
    pub passed : Log F
    pub passes : PassesBy root k log passed
    pub takes : Tries (building_path root k) passed later true
    pub is : new ≡ building_path root k

  -- All folders and then all files of the room were made there, in the order of their lists. Then the folder was
  -- synced and moved to the room's path.
  pub record Fills (new path : List ℕ) (folders files : List (List ℕ)) (log later : Log F) : Type 0 where
    pub between : Log F
    pub filled : Log F
    pub with_folders : ForEach (BuildsFolder new) folders log between
    pub with_files : ForEach (BuildsFile new) files between filled
    pub moves : Makes (synced_folder new (Ok tt) ∷ renamed_item new path (Ok tt) ∷ []) filled later

  -- a room was built at a new place, and moved to its path
  pub record BuildsRoom (root path : List ℕ) (folders files : List (List ℕ)) (log later : Log F) : Type 0 where
    pub new : List ℕ
    pub found : Log F
    pub takes : TakesPlace root new log found
    pub fills : Fills new path folders files found later

  -- a room was built, and then ROOT was synced, which ended so
  abbrev pub MakesRoom : List ℕ → List ℕ → List (List ℕ) → List (List ℕ) → Result (Unit {0}) Failure → Log F → Log F → Type 0
  MakesRoom root path folders files end log later =
      (built : Log F) × BuildsRoom root path folders files log built × Makes (synced_folder root end ∷ []) built later
