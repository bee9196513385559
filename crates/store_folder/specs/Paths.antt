-- The paths of what lies below ROOT.
use Rattle.std.specs.Prelude.{ℕ, List, [], ◌∷◌, ◌++◌, codes, slice_get, unwrap_or, string_bytes}
use Rattle.std.specs.Fmt.{decimal}
use Rattle.std.specs.Str.{IsUtf8}
use Rattle.folder_calls.specs.Parts.{IsPart}
use Rattle.store_folder.specs.declared.disk.Disk.{Disk}

-- a name that can stand in a path
abbrev pub IsNameable : List ℕ → Type 0
IsNameable name = IsPart name × IsUtf8 name

-- a folder's name that can stand in a path: at the top, where it is empty, it stands in none
abbrev pub IsNameableFolder : List ℕ → Type 0
IsNameableFolder [] = Unit {0}
IsNameableFolder (byte ∷ rest) = IsNameable (byte ∷ rest)

-- the path of an item of a folder
abbrev pub item_of : List ℕ → List ℕ → List ℕ
item_of folder name = folder ++ 47 ∷ name

-- the path of a room
abbrev pub room_path : {C F : Type 0} → Disk C F → ℕ → List ℕ
room_path disk room = item_of (string_bytes disk.root) (unwrap_or (slice_get disk.rooms.items room) [])

-- the path of a folder in the room of this path, which is the room's own at the top
abbrev pub folder_path : List ℕ → List ℕ → List ℕ
folder_path room [] = room
folder_path room (byte ∷ rest) = item_of room (byte ∷ rest)

-- the path of a folder of ROOT in which a room is built: `.new.` and a number
abbrev pub building_path : List ℕ → ℕ → List ℕ
building_path root k = item_of root (codes ".new." ++ decimal k)
