-- When what a check finds is right.
use Rattle.std.specs.Prelude.{◌≡◌, Bool, true, false}
use Rattle.plfs_types.specs.Counts.{HasRisen}
use Rattle.store_api.specs.declared.tree.Tree.{Tree}
use Rattle.store_api.specs.declared.store.Trouble.{Trouble}
use Rattle.store_api.specs.declared.store.Trouble.TheVariants as trouble
use Rattle.store_api.specs.Acts.{Stored}
use Rattle.mount_model.specs.Paths.{Name}
use Rattle.store_api.specs.Names.{marks_name}
use Rattle.tree_laws.specs.Complaints.{Complaint, IsBroken}
use Rattle.tree_laws.specs.Complaints as complaint
use Rattle.shape_check.specs.declared.finding.Complaint as code
use Rattle.shape_check.specs.declared.finding.Complaint.TheVariants as variant
use Rattle.shape_check.specs.declared.finding.Finding.{Finding}
use Rattle.shape_check.specs.declared.finding.Finding.TheVariants.{Broken, Fault, NoMemory, Untold}
use Rattle.shape_check.specs.Seeing.{IsSeen}

-- the complaint that a value of the program stands for
abbrev pub complaint_of : code.Complaint → Complaint
complaint_of (variant.RoomName room) = complaint.room_name room
complaint_of (variant.NoFolder room folder) = complaint.no_folder room folder
complaint_of (variant.NoAccess room) = complaint.no_access room
complaint_of (variant.ForeignFolder room folder) = complaint.foreign_folder room folder
complaint_of (variant.Foreign room path) = complaint.foreign room path
complaint_of (variant.NoMark path) = complaint.no_mark path
complaint_of (variant.Filled room path) = complaint.filled room path
complaint_of (variant.Unmarked room path) = complaint.unmarked room path
complaint_of (variant.TwoHosts room writer) = complaint.two_hosts room writer
complaint_of (variant.Entry room path place) = complaint.entry room path place
complaint_of (variant.LongLog room path) = complaint.long_log room path
complaint_of (variant.Unaccounted room path) = complaint.unaccounted room path
complaint_of (variant.Untrue room path) = complaint.untrue room path
complaint_of (variant.Unsettled room path) = complaint.unsettled room path
complaint_of (variant.Between room path stamp) = complaint.between room path stamp
complaint_of (variant.TwoTruncates room stamp) = complaint.two_truncates room stamp
complaint_of (variant.WrongIndex room path) = complaint.wrong_index room path

-- whether it is of the shape of a room, of its writers' hosts or of its truncates' stamps
abbrev pub is_of_shape : code.Complaint → Bool
is_of_shape (variant.RoomName room) = true
is_of_shape (variant.NoFolder room folder) = true
is_of_shape (variant.NoAccess room) = true
is_of_shape (variant.ForeignFolder room folder) = true
is_of_shape (variant.Foreign room path) = true
is_of_shape (variant.NoMark path) = true
is_of_shape (variant.Filled room path) = true
is_of_shape (variant.Unmarked room path) = true
is_of_shape (variant.TwoHosts room writer) = true
is_of_shape (variant.Entry room path place) = false
is_of_shape (variant.LongLog room path) = false
is_of_shape (variant.Unaccounted room path) = false
is_of_shape (variant.Untrue room path) = false
is_of_shape (variant.Unsettled room path) = false
is_of_shape (variant.Between room path stamp) = false
is_of_shape (variant.TwoTruncates room stamp) = true
is_of_shape (variant.WrongIndex room path) = false

-- the room that it is of
abbrev pub room_of : code.Complaint → Name
room_of (variant.RoomName room) = room
room_of (variant.NoFolder room folder) = room
room_of (variant.NoAccess room) = room
room_of (variant.ForeignFolder room folder) = room
room_of (variant.Foreign room path) = room
room_of (variant.NoMark path) = marks_name
room_of (variant.Filled room path) = room
room_of (variant.Unmarked room path) = room
room_of (variant.TwoHosts room writer) = room
room_of (variant.Entry room path place) = room
room_of (variant.LongLog room path) = room
room_of (variant.Unaccounted room path) = room
room_of (variant.Untrue room path) = room
room_of (variant.Unsettled room path) = room
room_of (variant.Between room path stamp) = room
room_of (variant.TwoTruncates room stamp) = room
room_of (variant.WrongIndex room path) = room

-- the complaint of what is found wrong, if anything is, is of the room of this name, and P holds of it
abbrev pub IsFoundIn : Name → (code.Complaint → Type 0) → Finding → Type 0
IsFoundIn name P (Broken complaint) = (room_of complaint ≡ name) × P complaint
IsFoundIn name P Fault = Unit {0}
IsFoundIn name P NoMemory = Unit {0}
IsFoundIn name P Untold = Unit {0}

-- what is found wrong, if anything is, is wrong with the shape of the room of this name
abbrev pub IsOfShape : Name → Finding → Type 0
IsOfShape name (Broken complaint) = (is_of_shape complaint ≡ true) × (room_of complaint ≡ name)
IsOfShape name Fault = Unit {0}
IsOfShape name NoMemory = Unit {0}
IsOfShape name Untold = Unit {0}

-- what a trouble of the store is
abbrev pub finding_of : Trouble → Finding
finding_of trouble.Fault = Fault
finding_of trouble.NoMemory = NoMemory

-- a complaint is right of the tree, and a store that tells its tree answers
abbrev pub IsRight : Tree → Finding → Type 0
IsRight tree (Broken complaint) = IsBroken tree (complaint_of complaint)
IsRight tree Fault = Unit {0}
IsRight tree NoMemory = Unit {0}
IsRight tree Untold = ⊥

-- why a check of what has this property ended early: a fault comes only where the count rose
pub record Fails (P : Tree → Type 0) (old new : Stored) (finding : Finding) : Type 0 where
  pub cause : finding ≡ Fault → HasRisen old.faults new.faults
  pub right : (tree : Tree) → IsSeen old tree → P tree → IsRight tree finding

-- the store gave no answer
abbrev pub NoAnswer : Stored → Stored → Finding → Type 0
NoAnswer old new Fault = HasRisen old.faults new.faults
NoAnswer old new NoMemory = Unit {0}
NoAnswer old new (Broken complaint) = ⊥
NoAnswer old new Untold = ⊥

-- nothing was found wrong
abbrev pub IsNoComplaint : Finding → Type 0
IsNoComplaint (Broken complaint) = ⊥
IsNoComplaint Fault = Unit {0}
IsNoComplaint NoMemory = Unit {0}
IsNoComplaint Untold = Unit {0}
