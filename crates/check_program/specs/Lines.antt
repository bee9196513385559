-- The lines that tell what is complained of, and why a check was broken off.
use Rattle.std.specs.Prelude.{◌≡◌, ◌⊎◌, ℕ, Bool, true, false, List, [], ◌∷◌, ◌++◌, codes}
use Rattle.std.specs.List.{flat_map}
use Rattle.std.specs.Fmt.{decimal}
use Rattle.edge_io.specs.Sink.{Taking}
use Rattle.mount_model.specs.Paths.{Name}
use Rattle.report_text.specs.Items.{escaped, place_text}
use Rattle.shape_check.specs.declared.finding.Complaint.{Complaint}
use Rattle.shape_check.specs.declared.finding.Complaint.TheVariants as kind
use Rattle.shape_check.specs.Rightness.{room_of}
use Rattle.tree_check.specs.declared.halting.Halt.{Halt}
use Rattle.tree_check.specs.declared.halting.Halt.TheVariants.{Fault, NoMemory, Untold}
use Rattle.program_ends.specs.Output.{IsCutOff}

-- ---- one complaint

abbrev pub kind_word : Complaint → List ℕ
kind_word (kind.RoomName room) = codes "room-name"
kind_word (kind.NoFolder room folder) = codes "no-folder"
kind_word (kind.NoAccess room) = codes "no-access"
kind_word (kind.ForeignFolder room folder) = codes "foreign-folder"
kind_word (kind.Foreign room path) = codes "foreign"
kind_word (kind.NoMark path) = codes "no-mark"
kind_word (kind.Filled room path) = codes "filled"
kind_word (kind.Unmarked room path) = codes "unmarked"
kind_word (kind.TwoHosts room writer) = codes "two-hosts"
kind_word (kind.Entry room path place) = codes "entry"
kind_word (kind.LongLog room path) = codes "long-log"
kind_word (kind.Unaccounted room path) = codes "unaccounted"
kind_word (kind.Untrue room path) = codes "untrue"
kind_word (kind.Unsettled room path) = codes "unsettled"
kind_word (kind.Between room path stamp) = codes "between"
kind_word (kind.TwoTruncates room stamp) = codes "two-truncates"
kind_word (kind.WrongIndex room path) = codes "wrong-index"

-- a name as one word, which is a dash where it is empty
abbrev pub name_word : Name → List ℕ
name_word [] = codes "-"
name_word (b ∷ bytes) = escaped (b ∷ bytes)

-- the folder, the file or the writer that it is of
abbrev pub item_word : Complaint → List ℕ
item_word (kind.RoomName room) = codes "-"
item_word (kind.NoFolder room folder) = name_word folder
item_word (kind.NoAccess room) = codes "access"
item_word (kind.ForeignFolder room folder) = name_word folder
item_word (kind.Foreign room path) = place_text path.folder path.file
item_word (kind.NoMark path) = place_text path.folder path.file
item_word (kind.Filled room path) = place_text path.folder path.file
item_word (kind.Unmarked room path) = place_text path.folder path.file
item_word (kind.TwoHosts room writer) = decimal writer
item_word (kind.Entry room path place) = place_text path.folder path.file
item_word (kind.LongLog room path) = place_text path.folder path.file
item_word (kind.Unaccounted room path) = place_text path.folder path.file
item_word (kind.Untrue room path) = place_text path.folder path.file
item_word (kind.Unsettled room path) = place_text path.folder path.file
item_word (kind.Between room path stamp) = place_text path.folder path.file
item_word (kind.TwoTruncates room stamp) = codes "truncs"
item_word (kind.WrongIndex room path) = place_text path.folder path.file

-- the byte of an entry, or the stamp of a truncate
abbrev pub place_word : Complaint → List ℕ
place_word (kind.Entry room path place) = decimal place
place_word (kind.Between room path stamp) = decimal stamp
place_word (kind.TwoTruncates room stamp) = decimal stamp
place_word _ = codes "-"

-- the kind and the room
abbrev pub line_head : Complaint → List ℕ
line_head c = codes "broken " ++ (kind_word c ++ (codes " " ++ name_word (room_of c)))

-- the item and the place
abbrev pub line_tail : Complaint → List ℕ
line_tail c = codes " " ++ (item_word c ++ (codes " " ++ place_word c))

abbrev pub complaint_line : Complaint → List ℕ
complaint_line c = line_head c ++ (line_tail c ++ codes "\n")

abbrev pub complaint_lines : List Complaint → List ℕ
complaint_lines complaints = flat_map complaint_line complaints

-- whether there is any
abbrev pub are_some : List Complaint → Bool
are_some [] = false
are_some (c ∷ complaints) = true

-- ---- the line at the end

abbrev pub sound_line : List ℕ
sound_line = codes "sound\n"

abbrev pub no_file_line : List ℕ
no_file_line = codes "0 refused no-file\n"

abbrev pub usage_line : List ℕ
usage_line = codes "usage: plfs_check ROOT [NAME]\n"

-- the room that wasn't told, by its name
abbrev pub unreadable_line : Name → List ℕ
unreadable_line room = codes "broken unreadable " ++ (name_word room ++ codes " - -\n")

-- why the check was broken off at this room; want of memory has no line
abbrev pub halt_text : Name → Halt → List ℕ
halt_text room Fault = codes "0 fault\n"
halt_text room NoMemory = []
halt_text room Untold = unreadable_line room

abbrev pub halt_status : Halt → ℕ
halt_status Fault = 4
halt_status NoMemory = 3
halt_status Untold = 7

-- the sink broke within the text, or memory was refused before it
abbrev pub IsUnsaid : List ℕ → Taking → Taking → ℕ → Type 0
IsUnsaid text taking taking_after status = ((status ≡ 6) × IsCutOff text taking taking_after) ⊎ ((status ≡ 3) × (taking_after ≡ taking))
