-- What a loss of power leaves that keeps more of some files than it has to.
use Rattle.std.specs.Prelude.{ℕ, ◌+◌, ◌==◌, ◌&&◌, List, [], ◌∷◌, length, take, map, min, find, Bool, Option, Some, None}
use Rattle.plfs_types.specs.declared.names.Path.{Path}
use Rattle.store_api.specs.declared.tree.File.{File}
use Rattle.store_api.specs.declared.tree.Room.{Room}
use Rattle.store_api.specs.declared.tree.Tree.{Tree}
use Rattle.store_api.specs.Names.{same_name}
use Rattle.store_memory.specs.declared.losing.Keep.{Keep}

-- the first bytes of the file, so many more than are kept, as far as it has them
abbrev pub left_of : ℕ → File → File
left_of extra file = record file { bytes = take (min (file.kept + extra) (length file.bytes)) file.bytes; kept = min (file.kept + extra) (length file.bytes) }

-- whether this is for that file of the room of this number
abbrev pub is_for : ℕ → Path → Keep → Bool
is_for number path keep = keep.room == number && same_name keep.path.folder path.folder && same_name keep.path.file path.file

abbrev pub extra_in : Option Keep → ℕ
extra_in None = 0
extra_in (Some keep) = keep.extra

-- how many bytes more than the kept ones are left of that file, by the first that is for it
abbrev pub extra_for : List Keep → ℕ → Path → ℕ
extra_for keeps number path = extra_in (find (is_for number path) keeps)

abbrev pub lost_file : List Keep → ℕ → File → File
lost_file keeps number file = left_of (extra_for keeps number file.path) file

abbrev pub lost_room : List Keep → ℕ → Room → Room
lost_room keeps number room = record room { files = map (lost_file keeps number) room.files }

-- the rooms from this number on
abbrev pub lost_rooms : List Keep → ℕ → List Room → List Room
lost_rooms keeps number [] = []
lost_rooms keeps number (room ∷ rooms) = lost_room keeps number room ∷ lost_rooms keeps (number + 1) rooms

abbrev pub lost : List Keep → Tree → Tree
lost keeps tree = record { rooms = lost_rooms keeps 0 tree.rooms }
