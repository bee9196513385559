-- A short history in which two writers and a reader meet: its states.
use Rattle.std.proofs.Common.{ℕ, List, [], ◌∷◌, ◌++◌, take, Some, None, false}
use Rattle.std.specs.Prelude.{codes}
use Rattle.plfs_types.specs.declared.entries.Entry.{Entry}
use Rattle.index_entry.specs.Spelling.{spelling_all}
use Rattle.container_layout.specs.Paths.{hostdir_of}
use Rattle.store_api.specs.declared.tree.File.{File}
use Rattle.store_api.specs.declared.tree.Room.{Room}
use Rattle.store_api.specs.declared.tree.Tree.{Tree}
use Rattle.store_api.specs.declared.step.Answer.TheVariants.{Number, Names, Bytes}
use Rattle.store_api.specs.Acts.{Stored}
use Rattle.turn_object.specs.History.{entry}
use Rattle.mount_model.specs.declared.call.Call.{Call}
use Rattle.mount_model.specs.declared.call.Call.TheVariants.{MakeContainer, Look, Enter, Floor, MakeHostdir, MakeIndex, MakeLog, Write, Flush}
use Rattle.mount_model.specs.declared.call.Look.TheVariants.{Top, List as ListFolder, Length, Read}
use Rattle.mount_model.specs.declared.reply.Reply.{Reply}
use Rattle.mount_model.specs.declared.reply.Reply.TheVariants.{Room as RoomIs, Looked, Entered, Floored, Done, Wrote, Flushed, Fault}
use Rattle.mount_model.specs.declared.row.Row.{Row}
use Rattle.mount_model.specs.declared.row.Stage.{Stage}
use Rattle.mount_model.specs.declared.row.Stage.TheVariants as stage
use Rattle.mount_model.specs.Paths.{flats, Name, new_folders, mark_path, access_path, open_path, index_path, log_path, truncs}
use Rattle.store_api.specs.Names.{marks_folder}
use Rattle.container_layout.specs.Paths.{openhosts}
use Rattle.store_api.specs.Names.{marks_name}
use Rattle.mount_model.specs.History.{Event}
use Rattle.mount_model.specs.State.{State, id_of}
use Rattle.mount_model.specs.Writing.{wrote, entry_of}
use Rattle.mount_model.specs.Flushing.{flushed}
use Rattle.reader_laws.specs.Example.{no_rooms}

-- ---------- what stands in the store

-- the two writers
abbrev pub first_writer : ℕ
first_writer = id_of 1 1

abbrev pub second_writer : ℕ
second_writer = id_of 1 2

abbrev pub marks_room : Room
marks_room = record { name = marks_name; folders = marks_folder ∷ []; files = record { path = mark_path 1; bytes = []; kept = 0 } ∷ [] }

abbrev pub container_name : Name
container_name = codes "f"

abbrev pub with_hostdir : List Name
with_hostdir = new_folders ++ hostdir_of 0 ∷ []

abbrev pub tree_of : List Name → List File → Tree
tree_of folders files = record { rooms = marks_room ∷ record { name = container_name; folders = folders; files = files } ∷ [] }

abbrev pub access_file : File
access_file = record { path = access_path; bytes = []; kept = 0 }

abbrev pub open_file : ℕ → File
open_file writer = record { path = open_path 0 writer; bytes = []; kept = 0 }

abbrev pub index_file : ℕ → List ℕ → File
index_file writer bytes = record { path = index_path 0 writer; bytes = bytes; kept = 0 }

abbrev pub log_file : ℕ → List ℕ → File
log_file writer bytes = record { path = log_path 0 writer; bytes = bytes; kept = 0 }

-- ---------- rows

abbrev pub row_at : ℕ → ℕ → Stage → Row
row_at owner writer stage = record {
  id = writer;
  room = 1;
  host = 0;
  owner = owner;
  floor = 0;
  last = 0;
  stored = 0;
  end = 0;
  landed = 0;
  log_mark = 0;
  index_mark = 0;
  pending = record { entries = []; capacity = 4 };
  has_meta = false;
  stage = stage;
}

-- the first writer wrote two bytes at place 0, the second two at place 1, later
abbrev pub first_wrote : Row
first_wrote = wrote 7 (row_at 1 first_writer stage.Open) 0 2

abbrev pub second_wrote : Row
second_wrote = wrote 9 (row_at 2 second_writer stage.Open) 1 2

abbrev pub first_entry : Entry
first_entry = entry_of 7 (row_at 1 first_writer stage.Open) 0 2

abbrev pub second_entry : Entry
second_entry = entry_of 9 (row_at 2 second_writer stage.Open) 1 2

abbrev pub first_bytes : List ℕ
first_bytes = spelling_all (first_entry ∷ [])

abbrev pub second_bytes : List ℕ
second_bytes = spelling_all (second_entry ∷ [])

-- ---------- trees

-- the room of the marks before its mount has put one
abbrev pub unmarked : Tree
unmarked = record { rooms = record { name = marks_name; folders = marks_folder ∷ []; files = [] } ∷ [] }

abbrev pub no_container : Tree
no_container = record { rooms = marks_room ∷ [] }

abbrev pub made : Tree
made = tree_of new_folders (access_file ∷ [])

abbrev pub first_entered : Tree
first_entered = tree_of new_folders (access_file ∷ open_file first_writer ∷ [])

abbrev pub housed : Tree
housed = tree_of with_hostdir (access_file ∷ open_file first_writer ∷ [])

abbrev pub first_indexed : Tree
first_indexed = tree_of with_hostdir (access_file ∷ open_file first_writer ∷ index_file first_writer [] ∷ [])

-- the first writer's files, then the second's
abbrev pub first_files : List ℕ → List ℕ → List File → Tree
first_files index log others = tree_of with_hostdir (access_file ∷ open_file first_writer ∷ index_file first_writer index ∷ log_file first_writer log ∷ others)

abbrev pub first_opened : Tree
first_opened = first_files [] [] []

abbrev pub first_logged : Tree
first_logged = first_files [] (65 ∷ 66 ∷ []) []

abbrev pub first_landed : List File → Tree
first_landed others = first_files first_bytes (65 ∷ 66 ∷ []) others

abbrev pub second_entered : Tree
second_entered = first_landed (open_file second_writer ∷ [])

abbrev pub second_indexed : Tree
second_indexed = first_landed (open_file second_writer ∷ index_file second_writer [] ∷ [])

abbrev pub both_files : List ℕ → List ℕ → Tree
both_files index log = first_landed (open_file second_writer ∷ index_file second_writer index ∷ log_file second_writer log ∷ [])

-- ---------- states

abbrev pub holds : Tree → ℕ → ℕ → Stored
holds tree acts faults = record { tree = Some tree; acts = acts; faults = faults }

abbrev pub state : Tree → ℕ → ℕ → ℕ → List Row → State
state tree acts faults serial rows = record {
  store = holds tree acts faults;
  opened = holds no_rooms 0 0;
  times = None;
  marks = 0;
  mount = 1;
  serial = serial;
  table = record { writers = rows; holders = []; flattenings = [] };
}

abbrev pub torn : List ℕ
torn = take 20 second_bytes

abbrev pub with_second : Stage → List Row
with_second stage = flushed first_wrote ∷ row_at 2 second_writer stage ∷ []

abbrev pub both_wrote : List Row
both_wrote = flushed first_wrote ∷ second_wrote ∷ []

abbrev pub first_log : List ℕ
first_log = 65 ∷ 66 ∷ []

abbrev pub second_log : List ℕ
second_log = 67 ∷ 68 ∷ []

abbrev pub top_names : List Name
top_names = codes "access" ∷ codes "flats" ∷ hostdir_of 0 ∷ codes "metadata" ∷ openhosts ∷ truncs ∷ []

abbrev pub folder_names : List Name
folder_names = (index_path 0 first_writer).file ∷ (index_path 0 second_writer).file ∷ (log_path 0 first_writer).file ∷ (log_path 0 second_writer).file ∷ []

abbrev pub begun : State
begun = state no_container 3 0 0 []

abbrev pub asks : ℕ → Call → Reply → State → Event
asks caller call reply after = entry caller (record { call = call; stop = None }) reply after

-- ---------- the calls, of the two writers 1 and 2 and the reader 3

abbrev pub makes_room : Event
makes_room = asks 1 (MakeContainer container_name) (RoomIs 1) (state made 4 0 0 [])

abbrev pub enters_first : Event
enters_first = asks 1 (Enter 1 0 4) (Entered first_writer) (state first_entered 5 0 1 (row_at 1 first_writer stage.Entered ∷ []))

abbrev pub floors_first : Event
floors_first = asks 1 (Floor first_writer) (Floored 0) (state first_entered 6 0 1 (row_at 1 first_writer stage.Floored ∷ []))

abbrev pub houses_first : Event
houses_first = asks 1 (MakeHostdir first_writer) Done (state housed 7 0 1 (row_at 1 first_writer stage.Housed ∷ []))

abbrev pub indexes_first : Event
indexes_first = asks 1 (MakeIndex first_writer) Done (state first_indexed 8 0 1 (row_at 1 first_writer stage.Indexed ∷ []))

abbrev pub opens_first : Event
opens_first = asks 1 (MakeLog first_writer) Done (state first_opened 9 0 1 (row_at 1 first_writer stage.Open ∷ []))

abbrev pub writes_first : Event
writes_first = asks 1 (Write first_writer 0 first_log) (Wrote 7) (state first_logged 10 0 1 (first_wrote ∷ []))

abbrev pub flushes_first : Event
flushes_first = asks 1 (Flush first_writer) (Flushed 1) (state (first_landed []) 11 0 1 (flushed first_wrote ∷ []))

abbrev pub enters_second : Event
enters_second = asks 2 (Enter 1 0 4) (Entered second_writer) (state second_entered 12 0 2 (with_second stage.Entered))

abbrev pub floors_second : Event
floors_second = asks 2 (Floor second_writer) (Floored 0) (state second_entered 13 0 2 (with_second stage.Floored))

abbrev pub houses_second : Event
houses_second = asks 2 (MakeHostdir second_writer) Done (state second_entered 14 0 2 (with_second stage.Housed))

abbrev pub indexes_second : Event
indexes_second = asks 2 (MakeIndex second_writer) Done (state second_indexed 15 0 2 (with_second stage.Indexed))

abbrev pub opens_second : Event
opens_second = asks 2 (MakeLog second_writer) Done (state (both_files [] []) 16 0 2 (with_second stage.Open))

abbrev pub writes_second : Event
writes_second = asks 2 (Write second_writer 1 second_log) (Wrote 9) (state (both_files [] second_log) 17 0 2 both_wrote)

abbrev pub lists_flats : Event
lists_flats = asks 3 (Look 1 (ListFolder flats)) (Looked (Names [])) (state (both_files [] second_log) 18 0 2 both_wrote)

abbrev pub lists_top : Event
lists_top = asks 3 (Look 1 Top) (Looked (Names top_names)) (state (both_files [] second_log) 19 0 2 both_wrote)

abbrev pub flush_tears : Event
flush_tears = asks 2 (Flush second_writer) Fault (state (both_files torn second_log) 20 1 2 both_wrote)

abbrev pub lists_folder : Event
lists_folder = asks 3 (Look 1 (ListFolder (hostdir_of 0))) (Looked (Names folder_names)) (state (both_files torn second_log) 21 1 2 both_wrote)

abbrev pub asks_first : Event
asks_first = asks 3 (Look 1 (Length (index_path 0 first_writer))) (Looked (Number 40)) (state (both_files torn second_log) 22 1 2 both_wrote)

abbrev pub asks_first_log : Event
asks_first_log = asks 3 (Look 1 (Length (log_path 0 first_writer))) (Looked (Number 2)) (state (both_files torn second_log) 23 1 2 both_wrote)

abbrev pub reads_first : Event
reads_first = asks 3 (Look 1 (Read (index_path 0 first_writer) 0 40)) (Looked (Bytes first_bytes)) (state (both_files torn second_log) 24 1 2 both_wrote)

abbrev pub asks_second : Event
asks_second = asks 3 (Look 1 (Length (index_path 0 second_writer))) (Looked (Number 20)) (state (both_files torn second_log) 25 1 2 both_wrote)

abbrev pub asks_second_log : Event
asks_second_log = asks 3 (Look 1 (Length (log_path 0 second_writer))) (Looked (Number 2)) (state (both_files torn second_log) 26 1 2 both_wrote)

abbrev pub lists_truncs : Event
lists_truncs = asks 3 (Look 1 (ListFolder truncs)) (Looked (Names [])) (state (both_files torn second_log) 27 1 2 both_wrote)

abbrev pub flushes_second : Event
flushes_second = asks 2 (Flush second_writer) (Flushed 1) (state (both_files second_bytes second_log) 28 1 2 (flushed first_wrote ∷ flushed second_wrote ∷ []))

abbrev pub reads_log : Event
reads_log = asks 3 (Look 1 (Read (log_path 0 first_writer) 0 2)) (Looked (Bytes first_log)) (state (both_files second_bytes second_log) 29 1 2 (flushed first_wrote ∷ flushed second_wrote ∷ []))

abbrev pub gathering : List Event
gathering = makes_room ∷ enters_first ∷ floors_first ∷ houses_first ∷ indexes_first ∷ opens_first ∷ writes_first ∷ flushes_first ∷ enters_second ∷ floors_second ∷ houses_second ∷ indexes_second ∷ opens_second ∷ writes_second ∷ lists_flats ∷ lists_top ∷ flush_tears ∷ lists_folder ∷ asks_first ∷ asks_first_log ∷ reads_first ∷ asks_second ∷ asks_second_log ∷ []

abbrev pub later : List Event
later = flushes_second ∷ reads_log ∷ []
