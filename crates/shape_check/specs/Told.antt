-- What the answers to looks tell of a room.
use Rattle.std.specs.Prelude.{◌≡◌, ◌⊎◌, ℕ, List, length, take, drop, true, false, Option, Some, None, Result, Ok, Err}
use Rattle.plfs_types.specs.declared.names.Path.{Path}
use Rattle.store_api.specs.declared.tree.Room.{Room}
use Rattle.store_api.specs.declared.tree.Tree.{Tree}
use Rattle.store_api.specs.declared.step.Answer.{Answer}
use Rattle.store_api.specs.declared.step.Answer.TheVariants.{Absent, NoFolder, Names, Number, Bytes}
use Rattle.store_api.specs.Step.{Name}
use Rattle.shape_check.specs.declared.finding.Finding.{Finding}
use Rattle.shape_check.specs.declared.finding.Finding.TheVariants.{Untold}
use Rattle.store_api.specs.Room.{has_folder}
use Rattle.store_laws.specs.Files.{file_at}
use Rattle.store_laws.specs.There.{IsRoomOf, IsFree, AreNamesOf}

-- the number of the first room of this name, or that none has it
abbrev pub TellsRoom : Tree → Name → Option ℕ → Type 0
TellsRoom tree name None = IsFree tree name
TellsRoom tree name (Some number) = IsRoomOf tree name number

-- the names of the folder's entries, or that it isn't there
abbrev pub TellsFolder : Room → Name → Option (List Name) → Type 0
TellsFolder room folder None = has_folder room folder ≡ false
TellsFolder room folder (Some names) = (has_folder room folder ≡ true) × AreNamesOf room folder names

-- the length of the file, or that it isn't there, or not its folder
abbrev pub TellsLength : Room → Path → Option ℕ → Type 0
TellsLength room path None = (has_folder room path.folder ≡ false) ⊎ (file_at room path ≡ None)
TellsLength room path (Some len) = (bytes : List ℕ) × (file_at room path ≡ Some bytes) × (length bytes ≡ len)

-- bytes of the file that is there
abbrev pub TellsBytes : Room → Path → ℕ → ℕ → List ℕ → Type 0
TellsBytes room path at len bytes = (all : List ℕ) × (file_at room path ≡ Some all) × (bytes ≡ take len (drop at all))

-- ---- as answers

-- what an answer to a listing is
abbrev pub names_of : Answer → Result (Option (List Name)) Finding
names_of (Names names) = Ok (Some names)
names_of NoFolder = Ok None
names_of answer = Err Untold

-- what an answer to the length of a file is
abbrev pub length_in : Answer → Result (Option ℕ) Finding
length_in (Number len) = Ok (Some len)
length_in NoFolder = Ok None
length_in Absent = Ok None
length_in answer = Err Untold

-- what an answer to a read is
abbrev pub bytes_in : Answer → Result (List ℕ) Finding
bytes_in (Bytes bytes) = Ok bytes
bytes_in answer = Err Untold

-- what an answer to the rooms' names is
abbrev pub rooms_in : Answer → Result (List Name) Finding
rooms_in (Names names) = Ok names
rooms_in answer = Err Untold

-- what an answer to a search of a room is
abbrev pub number_in : Answer → Result (Option ℕ) Finding
number_in (Number number) = Ok (Some number)
number_in Absent = Ok None
number_in answer = Err Untold

-- the same where it is told
abbrev pub FolderAnswer : Room → Name → Answer → Type 0
FolderAnswer room folder (Names names) = TellsFolder room folder (Some names)
FolderAnswer room folder NoFolder = TellsFolder room folder None
FolderAnswer room folder answer = ⊥

abbrev pub LengthAnswer : Room → Path → Answer → Type 0
LengthAnswer room path (Number len) = TellsLength room path (Some len)
LengthAnswer room path NoFolder = TellsLength room path None
LengthAnswer room path Absent = TellsLength room path None
LengthAnswer room path answer = ⊥

abbrev pub BytesAnswer : Room → Path → ℕ → ℕ → Answer → Type 0
BytesAnswer room path at len (Bytes bytes) = TellsBytes room path at len bytes
BytesAnswer room path at len NoFolder = TellsLength room path None
BytesAnswer room path at len Absent = TellsLength room path None
BytesAnswer room path at len answer = ⊥
