-- Which items of ROOT are rooms, and what a step on rooms asks of the system and answers.
use Rattle.std.specs.Prelude.{◌≡◌, ℕ, ◌≤◌, ◌<◌, List, [], ◌∷◌, ◌++◌, length, position, slice_set, string_bytes, Bool, false, if◌then◌else◌, Some, None, IsSome, Result, Ok}
use Rattle.store_api.specs.declared.step.Answer.{Answer}
use Rattle.store_api.specs.declared.step.Answer.TheVariants.{Made, Old, NoRoom, TargetThere, Number}
use Rattle.store_api.specs.Names.{same_name}
use Rattle.store_folder.specs.declared.disk.Disk.{Disk}
use Rattle.folder_calls.specs.declared.failure.Failure.{Failure}
use Rattle.folder_calls.specs.declared.reason.Kind.{Kind}
use Rattle.folder_calls.specs.Calls.{Log, Makes, looked_at, listed_folder, synced_folder, renamed_item}
use Rattle.folder_calls.specs.Kinds.{is_folder}
use Rattle.store_folder.specs.Listings.{IsSortedListing}
use Rattle.store_folder.specs.NewRooms.{MakesRoom}
use Rattle.folder_calls.specs.Parts.{IsRoomName}
use Rattle.store_folder.specs.Paths.{item_of, room_path}

-- the name, where it is a room's
abbrev pub if_room : Bool → List ℕ → List (List ℕ)
if_room is_room name = if is_room then name ∷ [] else []

module _ {F : Type 0} where
  -- An item of ROOT is a room where its name can be one's and a plain folder is there. No other name is looked at.
  pub record LooksForRoom (root name : List ℕ) (is_room : Bool) (log later : Log F) : Type 0 where
    pub named : IsRoomName name → (kind : Kind) × Makes (looked_at (item_of root name) (Ok kind) ∷ []) log later × (is_room ≡ is_folder kind)
    pub unnamed : (¬ IsRoomName name) → (later ≡ log) × (is_room ≡ false)

  -- the rooms among the names, each of which was looked for
  abbrev pub FindsRooms : List ℕ → List (List ℕ) → List (List ℕ) → Log F → Log F → Type 0
  FindsRooms root [] rooms log later = (rooms ≡ []) × (later ≡ log)
  FindsRooms root (name ∷ names) rooms log later =
      (is_room : Bool) × (rest : List (List ℕ)) × (between : Log F) × (rooms ≡ if_room is_room name ++ rest) × LooksForRoom root name is_room log between × FindsRooms root names rest between later

  -- ROOT was listed, and these are its rooms in byte order
  pub record ListsRooms (root : List ℕ) (rooms : List (List ℕ)) (log later : Log F) : Type 0 where
    pub names : List (List ℕ)
    pub found : List (List ℕ)
    pub told : Log F
    pub lists : Makes (listed_folder root (Ok names) ∷ []) log told
    pub finds : FindsRooms root names found told later
    pub ordered : IsSortedListing found rooms

  -- an item of ROOT got another name, and then ROOT was synced, which ended so
  abbrev pub MovesRoom : List ℕ → List ℕ → List ℕ → Result (Unit {0}) Failure → Log F → Log F → Type 0
  MovesRoom root path name end log later = Makes (renamed_item path (item_of root name) (Ok tt) ∷ synced_folder root end ∷ []) log later

module _ {C F : Type 0} where
  -- the rooms and their numbers are the same
  abbrev pub HasRooms : Disk C F → Disk C F → Type 0
  HasRooms old new = (new.root ≡ old.root) × (new.rooms ≡ old.rooms) × (new.is_numbered ≡ old.is_numbered)

  -- the files that are open are the same, and rooms have numbers or not as before
  abbrev pub HasFiles : Disk C F → Disk C F → Type 0
  HasFiles old new = (new.root ≡ old.root) × (new.is_numbered ≡ old.is_numbered) × (new.open ≡ old.open) × (new.own ≡ old.own)

  -- the rooms and the open files are the same, so that only the system's state may differ
  abbrev pub IsStill : Disk C F → Disk C F → Type 0
  IsStill old new = HasRooms old new × (new.open ≡ old.open) × (new.own ≡ old.own)

  -- what is said of the room of this number by its path, or there is none, and no call was made
  abbrev pub InRoom : Disk C F → ℕ → Answer → Log F → Log F → (List ℕ → Type 0) → Type 0
  InRoom disk room answer log later says =
      (length disk.rooms.items ≤ room → (answer ≡ NoRoom) × (later ≡ log)) × (room < length disk.rooms.items → says (room_path disk room))

  module _ (old new : Disk C F) (name : List ℕ) (log later : Log F) where
    -- a room was made, and has the next number, or there is one of the name
    abbrev pub AddsRoom : List (List ℕ) → List (List ℕ) → Answer → Type 0
    AddsRoom folders files (Old room) = (position (λ there. same_name there name) old.rooms.items ≡ Some room) × (later ≡ log) × (new.rooms ≡ old.rooms)
    AddsRoom folders files (Number room) =
        (position (λ there. same_name there name) old.rooms.items ≡ None) × (room ≡ length old.rooms.items) × (new.rooms.items ≡ old.rooms.items ++ name ∷ [])
        × MakesRoom (string_bytes old.root) (item_of (string_bytes old.root) name) folders files (Ok tt) log later
    AddsRoom folders files other = ⊥

    -- the room of this number and path was renamed, and is known by the new name, or another room has that
    abbrev pub RenamesRoom : ℕ → Answer → List ℕ → Type 0
    RenamesRoom room Made path =
        (position (λ there. same_name there name) old.rooms.items ≡ None) × (new.rooms.items ≡ slice_set old.rooms.items room name)
        × MovesRoom (string_bytes old.root) path name (Ok tt) log later
    RenamesRoom room TargetThere path = IsSome (position (λ there. same_name there name) old.rooms.items) × (later ≡ log) × (new.rooms ≡ old.rooms)
    RenamesRoom room other path = ⊥
