-- A look that gives no answer finds nothing wrong, and what is found wrong of a room's shape is of the shape.
use Rattle.std.specs.Prelude.{◌≡◌, IfErr, Result, Ok, Err}
use Rattle.std.proofs.Common.{sym, subst}
use Rattle.store_api.specs.declared.step.Answer.{Answer}
use Rattle.store_api.specs.declared.step.Answer.TheVariants.{Made, Old, Absent, NoRoom, NoFolder, NotEmpty, TargetThere, Names, Number, Bytes, Beyond}
use Rattle.store_api.specs.Acts.{Stored}
use Rattle.mount_model.specs.Paths.{Name}
use Rattle.shape_check.specs.declared.finding.Complaint.{Complaint}
use Rattle.shape_check.specs.declared.finding.Finding.{Finding}
use Rattle.shape_check.specs.declared.finding.Finding.TheVariants.{Broken, Fault, NoMemory, Untold}
use Rattle.shape_check.specs.Rightness.{IsFoundIn, IsNoComplaint, IsOfShape, NoAnswer}
use Rattle.shape_check.specs.Told.{bytes_in, length_in, names_of, number_in, rooms_in}

pub unanswered : (old new : Stored) (finding : Finding) → NoAnswer old new finding → IsNoComplaint finding
unanswered old new (Broken complaint) n = n
unanswered old new Fault n = tt
unanswered old new NoMemory n = tt
unanswered old new Untold n = tt

pub no_rooms : (answer : Answer) → IfErr (rooms_in answer) IsNoComplaint
no_rooms Made = tt
no_rooms (Old number) = tt
no_rooms Absent = tt
no_rooms NoRoom = tt
no_rooms NoFolder = tt
no_rooms (NotEmpty least) = tt
no_rooms TargetThere = tt
no_rooms (Names names) = tt
no_rooms (Number value) = tt
no_rooms (Bytes bytes) = tt
no_rooms Beyond = tt

pub no_number : (answer : Answer) → IfErr (number_in answer) IsNoComplaint
no_number Made = tt
no_number (Old number) = tt
no_number Absent = tt
no_number NoRoom = tt
no_number NoFolder = tt
no_number (NotEmpty least) = tt
no_number TargetThere = tt
no_number (Names names) = tt
no_number (Number value) = tt
no_number (Bytes bytes) = tt
no_number Beyond = tt

pub no_names : (answer : Answer) → IfErr (names_of answer) IsNoComplaint
no_names Made = tt
no_names (Old number) = tt
no_names Absent = tt
no_names NoRoom = tt
no_names NoFolder = tt
no_names (NotEmpty least) = tt
no_names TargetThere = tt
no_names (Names names) = tt
no_names (Number value) = tt
no_names (Bytes bytes) = tt
no_names Beyond = tt

pub no_length : (answer : Answer) → IfErr (length_in answer) IsNoComplaint
no_length Made = tt
no_length (Old number) = tt
no_length Absent = tt
no_length NoRoom = tt
no_length NoFolder = tt
no_length (NotEmpty least) = tt
no_length TargetThere = tt
no_length (Names names) = tt
no_length (Number value) = tt
no_length (Bytes bytes) = tt
no_length Beyond = tt

pub no_bytes : (answer : Answer) → IfErr (bytes_in answer) IsNoComplaint
no_bytes Made = tt
no_bytes (Old number) = tt
no_bytes Absent = tt
no_bytes NoRoom = tt
no_bytes NoFolder = tt
no_bytes (NotEmpty least) = tt
no_bytes TargetThere = tt
no_bytes (Names names) = tt
no_bytes (Number value) = tt
no_bytes (Bytes bytes) = tt
no_bytes Beyond = tt

pub memory_unbroken : (finding : Finding) → finding ≡ NoMemory → IsNoComplaint finding
memory_unbroken finding is = subst IsNoComplaint (sym is) tt

-- ---- of the room, and of its shape

pub unbroken_found : (name : Name) (P : Complaint → Type 0) (finding : Finding) → IsNoComplaint finding → IsFoundIn name P finding
unbroken_found name P (Broken complaint) none = absurd none
unbroken_found name P Fault none = tt
unbroken_found name P NoMemory none = tt
unbroken_found name P Untold none = tt

-- what is found of one thing is found of another one
pub found_by : (name : Name) (P Q : Complaint → Type 0) → ((complaint : Complaint) → P complaint → Q complaint) → (finding : Finding) → IsFoundIn name P finding → IsFoundIn name Q finding
found_by name P Q gives (Broken complaint) found = (found.0, gives complaint found.1)
found_by name P Q gives Fault found = tt
found_by name P Q gives NoMemory found = tt
found_by name P Q gives Untold found = tt

pub all_found_by : {A : Type 0} (name : Name) (P Q : Complaint → Type 0) → ((complaint : Complaint) → P complaint → Q complaint) → (result : Result A Finding) → IfErr result (IsFoundIn name P) → IfErr result (IsFoundIn name Q)
all_found_by name P Q gives (Ok value) found = tt
all_found_by name P Q gives (Err finding) found = found_by name P Q gives finding found

pub unbroken_shape : (name : Name) (finding : Finding) → IsNoComplaint finding → IsOfShape name finding
unbroken_shape name (Broken complaint) none = absurd none
unbroken_shape name Fault none = tt
unbroken_shape name NoMemory none = tt
unbroken_shape name Untold none = tt

pub unbroken_shapes : {A : Type 0} (name : Name) (result : Result A Finding) → IfErr result IsNoComplaint → IfErr result (IsOfShape name)
unbroken_shapes name (Ok value) none = tt
unbroken_shapes name (Err finding) none = unbroken_shape name finding none

pub memory_found : (name : Name) (P : Complaint → Type 0) (finding : Finding) → finding ≡ NoMemory → IsFoundIn name P finding
memory_found name P finding is = subst (IsFoundIn name P) (sym is) tt

pub memory_shape : (name : Name) (finding : Finding) → finding ≡ NoMemory → IsOfShape name finding
memory_shape name finding is = subst (IsOfShape name) (sym is) tt
