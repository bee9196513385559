-- What the making of a room leaves where it is broken off, and how that is cleared.
use Rattle.std.specs.Prelude.{◌≡◌, ℕ, zero, suc, List, [], ◌∷◌, Bool, true, false, Ok}
use Rattle.folder_calls.specs.declared.calls.Removal.{Removal}
use Rattle.folder_calls.specs.declared.calls.Removal.TheVariants.{Removed, Absent as Missing, NotEmpty}
use Rattle.folder_calls.specs.declared.reason.Kind.{Kind}
use Rattle.folder_calls.specs.declared.reason.Kind.TheVariants.{Absent, File, Folder, Other}
use Rattle.folder_calls.specs.Calls.{Log, Makes, looked_at, listed_folder, made_folder, removed_file, removed_folder}
use Rattle.store_folder.specs.ForEach.{ForEach}
use Rattle.folder_calls.specs.Kinds.{is_folder}
use Rattle.store_folder.specs.Paths.{item_of, building_path}

-- whether the folder was removed
abbrev pub is_removed : Removal → Bool
is_removed Removed = true
is_removed Missing = false
is_removed NotEmpty = false

module _ {F : Type 0} where
  -- An item of a leftover: the system removes a folder that is empty, and an empty file is removed. All else stays.
  abbrev pub RemovesLeftover : List ℕ → Kind → Log F → Log F → Type 0
  RemovesLeftover path Folder log later = (end : Removal) × Makes (removed_folder path (Ok end) ∷ []) log later
  RemovesLeftover path (File zero) log later = (was_there : Bool) × Makes (removed_file path (Ok was_there) ∷ []) log later
  RemovesLeftover path (File (suc len)) log later = later ≡ log
  RemovesLeftover path Absent log later = later ≡ log
  RemovesLeftover path Other log later = later ≡ log

  -- an item was looked at, and removed where it is a leftover
  abbrev pub ClearsItem : List ℕ → List ℕ → Log F → Log F → Type 0
  ClearsItem folder name log later =
      (kind : Kind) × (between : Log F) × Makes (looked_at (item_of folder name) (Ok kind) ∷ []) log between × RemovesLeftover (item_of folder name) kind between later

  -- A folder was listed, its items were cleared, and the system was asked to remove it, which it does where it is empty.
  -- What it answered tells whether the folder is gone.
  pub record Empties (path : List ℕ) (log later : Log F) (is_gone : Bool) : Type 0 where
    pub names : List (List ℕ)
    pub told : Log F
    pub cleared : Log F
    pub end : Removal
    pub lists : Makes (listed_folder path (Ok names) ∷ []) log told
    pub clears : ForEach (ClearsItem path) names told cleared
    pub removes : Makes (removed_folder path (Ok end) ∷ []) cleared later
    pub tells : is_gone ≡ is_removed end

  -- a folder was emptied, and is gone or not, and what is no folder stays
  pub data Clears (path : List ℕ) (log later : Log F) (is_gone : Bool) : Type 0 where
    emptied : (seen : Log F) → Makes (looked_at path (Ok Folder) ∷ []) log seen → Empties path seen later is_gone → Clears path log later is_gone
    left : (kind : Kind) → is_gone ≡ false → is_folder kind ≡ false → Makes (looked_at path (Ok kind) ∷ []) log later → Clears path log later is_gone

  -- A folder was made at this path, where nothing was, or where a leftover was cleared that is gone then. Else it wasn't
  -- made, and not tried again.
  pub data Tries (path : List ℕ) (log later : Log F) (is_made : Bool) : Type 0 where
    at_once : is_made ≡ true → Makes (made_folder path (Ok true) ∷ []) log later → Tries path log later is_made
    after_clearing : (taken cleared : Log F) → Makes (made_folder path (Ok false) ∷ []) log taken → Clears path taken cleared true → Makes (made_folder path (Ok is_made) ∷ []) cleared later → Tries path log later is_made
    never : (taken : Log F) → is_made ≡ false → Makes (made_folder path (Ok false) ∷ []) log taken → Clears path taken later false → Tries path log later is_made

  -- the first k places for a new room were tried, and none of them was free
  abbrev pub PassesBy : List ℕ → ℕ → Log F → Log F → Type 0
  PassesBy root zero log later = later ≡ log
  PassesBy root (suc k) log later = (between : Log F) × PassesBy root k log between × Tries (building_path root k) between later false
