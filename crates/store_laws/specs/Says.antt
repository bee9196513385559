-- What an answer says of the tree that it was given at.
use Rattle.std.specs.Prelude.{◌≡◌, ℕ, List, ◌∷◌, take, drop, length}
use Rattle.std.specs.List.{list_any}
use Rattle.plfs_types.specs.declared.names.Path.{Path}
use Rattle.store_api.specs.declared.tree.Tree.{Tree}
use Rattle.store_api.specs.declared.step.Answer.{Answer}
use Rattle.store_api.specs.declared.step.Answer.TheVariants.{Old, Absent, NoRoom, NoFolder, NotEmpty, TargetThere, Names, Number, Bytes, Beyond}
use Rattle.store_api.specs.Step.{Name}
use Rattle.store_api.specs.Names.{same_name}
use Rattle.store_laws.specs.Differ.{is_listed}
use Rattle.store_laws.specs.There.{LacksRoom, IsRoomOf, IsFree, LacksFolder, HoldsFolder, HoldsFile, LacksFile, EndsBefore, AreInOrder, ListsFolder}

-- ---- why a step has changed nothing

-- no room was made: one has the name
abbrev pub WhyNoRoomMade : Tree → Name → Answer → Type 0
WhyNoRoomMade tree name (Old n) = IsRoomOf tree name n
WhyNoRoomMade tree name answer = ⊥

-- a room kept its name: it isn't there, or one has the new name
abbrev pub WhyNotRenamed : Tree → ℕ → Name → Answer → Type 0
WhyNotRenamed tree n to NoRoom = LacksRoom tree n
WhyNotRenamed tree n to TargetThere = (k : ℕ) × IsRoomOf tree to k
WhyNotRenamed tree n to answer = ⊥

-- no folder was made: no room, or it is there
abbrev pub WhyNoFolderMade : Tree → ℕ → Name → Answer → Type 0
WhyNoFolderMade tree n folder NoRoom = LacksRoom tree n
WhyNoFolderMade tree n folder (Old number) = (number ≡ 0) × HoldsFolder tree n folder
WhyNoFolderMade tree n folder answer = ⊥

-- no folder was removed: no room, no such folder, or it has entries
abbrev pub WhyNoFolderRemoved : Tree → ℕ → Name → Answer → Type 0
WhyNoFolderRemoved tree n folder NoRoom = LacksRoom tree n
WhyNoFolderRemoved tree n folder NoFolder = LacksFolder tree n folder
WhyNoFolderRemoved tree n folder (NotEmpty least) = (more : List Name) × ListsFolder tree n folder (least ∷ more)
WhyNoFolderRemoved tree n folder answer = ⊥

-- no file was made: no room, no folder, or it is there
abbrev pub WhyNotCreated : Tree → ℕ → Path → Answer → Type 0
WhyNotCreated tree n path NoRoom = LacksRoom tree n
WhyNotCreated tree n path NoFolder = LacksFolder tree n path.folder
WhyNotCreated tree n path (Old number) = (number ≡ 0) × HoldsFile tree n path
WhyNotCreated tree n path answer = ⊥

-- a step on a file found none: no room, no folder, no file
abbrev pub WhyNoFile : Tree → ℕ → Path → Answer → Type 0
WhyNoFile tree n path NoRoom = LacksRoom tree n
WhyNoFile tree n path NoFolder = LacksFolder tree n path.folder
WhyNoFile tree n path Absent = LacksFile tree n path
WhyNoFile tree n path answer = ⊥

-- a file was not written, or cut: there is none, or it ends before this place
abbrev pub WhyNotWritten : Tree → ℕ → Path → ℕ → Answer → Type 0
WhyNotWritten tree n path at Beyond = EndsBefore tree n path at
WhyNotWritten tree n path at answer = WhyNoFile tree n path answer

-- ---- what is told

-- the names of the rooms, each once and in order
pub record AreRoomNames (tree : Tree) (names : List Name) : Type 0 where
  pub exactly : (name : Name) → is_listed name names ≡ list_any (λ room. same_name room.name name) tree.rooms
  pub ordered : AreInOrder names

abbrev pub RoomsTell : Tree → Answer → Type 0
RoomsTell tree (Names names) = AreRoomNames tree names
RoomsTell tree answer = ⊥

-- the number of the room of this name, or that none has it
abbrev pub FindTells : Tree → Name → Answer → Type 0
FindTells tree name (Number n) = IsRoomOf tree name n
FindTells tree name Absent = IsFree tree name
FindTells tree name answer = ⊥

-- the names of a folder's entries, or that there is no room or folder
abbrev pub ListTells : Tree → ℕ → Name → Answer → Type 0
ListTells tree n folder (Names names) = ListsFolder tree n folder names
ListTells tree n folder NoRoom = LacksRoom tree n
ListTells tree n folder NoFolder = LacksFolder tree n folder
ListTells tree n folder answer = ⊥

-- the length of a file, or why there is none
abbrev pub LengthTells : Tree → ℕ → Path → Answer → Type 0
LengthTells tree n path (Number len) = (held : HoldsFile tree n path) × (length held.bytes ≡ len)
LengthTells tree n path answer = WhyNoFile tree n path answer

-- the bytes of a file from a place on, at most so many, or why there is none
abbrev pub ReadTells : Tree → ℕ → Path → ℕ → ℕ → Answer → Type 0
ReadTells tree n path at len (Bytes bytes) = (held : HoldsFile tree n path) × (bytes ≡ take len (drop at held.bytes))
ReadTells tree n path at len answer = WhyNoFile tree n path answer
