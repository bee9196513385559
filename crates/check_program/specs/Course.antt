-- How a check goes, from its words to its status.
use Rattle.std.specs.Prelude.{◌≡◌, ℕ, Bool, true, List, [], ◌∷◌, take, Some, slice_get}
use Rattle.edge_io.specs.Sink.{Taking}
use Rattle.store_api.specs.declared.tree.Tree.{Tree}
use Rattle.store_api.specs.Acts.{Stored}
use Rattle.store_laws.specs.Differ.{is_listed}
use Rattle.store_laws.specs.Says.{AreRoomNames}
use Rattle.store_laws.specs.There.{IsFree}
use Rattle.mount_model.specs.Paths.{Name}
use Rattle.store_api.specs.Names.{marks_name}
use Rattle.tree_laws.specs.Listable.{IsListable}
use Rattle.shape_check.specs.declared.finding.Complaint.{Complaint}
use Rattle.shape_check.specs.Seeing.{IsSeen, IsLookedAt}
use Rattle.tree_check.specs.declared.halting.Halt.{Halt}
use Rattle.tree_check.specs.Complaining.{AreToldOf, IsToldOf}
use Rattle.tree_check.specs.Halting.{Halts}
use Rattle.program_ends.specs.Ends.{Ends, IsSaid, IsUntouched}
use Rattle.program_ends.specs.Reported.{IsReported}
use Rattle.program_ends.specs.Output.{IsPrinted}
use Rattle.check_program.specs.declared.words.CheckCommand.{CheckCommand}
use Rattle.check_program.specs.declared.words.CheckCommand.TheVariants.{All, One}
use Rattle.check_program.specs.Lines.{IsUnsaid, are_some, complaint_lines, halt_status, halt_text, no_file_line, sound_line, usage_line}
use Rattle.check_program.specs.Words.{IsCheckCommand}

-- Q holds of the tree that the store tells, once all its bytes are kept, if P does
abbrev pub OfTold : (Tree → Type 0) → (Tree → Type 0) → Stored → Type 0
OfTold P Q stored = (tree : Tree) → IsSeen stored tree → P tree → Q tree

-- rooms have these names, in a tree that listings show whole
pub record AreThere (names : List Name) (tree : Tree) : Type 0 where
  pub listable : IsListable tree
  pub there : (name : Name) → is_listed name names ≡ true → IsFree tree name → ⊥

-- ---- rooms

-- these complaints were told of the room, and their lines printed
pub record SaysRoom (P : Tree → Type 0) (name : Name) (stored : Stored) (taking taking_after : Taking) (broken : Bool) : Type 0 where
  pub found : List Complaint
  pub told : OfTold P (IsToldOf found name) stored
  pub printed : IsPrinted (complaint_lines found) taking taking_after
  pub any : broken ≡ are_some found

-- the same of these rooms, one behind the other
pub record SaysRooms (P : Tree → Type 0) (names : List Name) (stored : Stored) (taking taking_after : Taking) (broken : Bool) : Type 0 where
  pub found : List Complaint
  pub told : OfTold P (λ tree. AreToldOf tree names found) stored
  pub printed : IsPrinted (complaint_lines found) taking taking_after
  pub any : broken ≡ are_some found

-- The check was broken off at this room, which was said.
pub record IsHalted (P : Tree → Type 0) (room : Name) (old new : Stored) (taking taking_after : Taking) (status : ℕ) : Type 0 where
  pub halt : Halt
  pub why : Halts P old new halt
  pub reported : IsReported (halt_text room halt) (halt_status halt) taking taking_after status

-- No more was told of this room: the check was broken off there, or what was told of it wasn't said whole.
pub data BreaksOff (P : Tree → Type 0) (room : Name) (old new : Stored) (taking taking_after : Taking) (status : ℕ) : Type 0 where
  halted : IsHalted P room old new taking taking_after status → BreaksOff P room old new taking taking_after status
  unsaid : (found : List Complaint) → OfTold P (IsToldOf found room) old → IsUnsaid (complaint_lines found) taking taking_after status → BreaksOff P room old new taking taking_after status

-- So it was at one of these rooms, once complaints of those before it were told and printed.
pub record BreaksOffBehind (P : Tree → Type 0) (names : List Name) (old new : Stored) (taking taking_after : Taking) (status : ℕ) : Type 0 where
  pub count : ℕ
  pub room : Name
  pub is_next : slice_get names count ≡ Some room
  pub mid : Taking
  pub any : Bool
  pub said : SaysRooms P (take count names) old taking mid any
  pub off : BreaksOff P room old new mid taking_after status

-- What becomes of a check of these rooms.
pub data ChecksRooms (P : Tree → Type 0) (names : List Name) (old new : Stored) (taking taking_after : Taking) (status : ℕ) : Type 0 where
  -- nothing is complained of them
  sound : OfTold P (λ tree. AreToldOf tree names []) old → IsReported sound_line 0 taking taking_after status → ChecksRooms P names old new taking taking_after status
  -- these are the complaints
  broken : (first : Complaint) (more : List Complaint) → OfTold P (λ tree. AreToldOf tree names (first ∷ more)) old → IsPrinted (complaint_lines (first ∷ more)) taking taking_after → status ≡ 7
      → ChecksRooms P names old new taking taking_after status
  -- one of them wasn't told whole
  stopped : BreaksOffBehind P names old new taking taking_after status → ChecksRooms P names old new taking taking_after status
  -- nor was the room of marks, which tells the ids that were drawn
  marks_untold : IsHalted P marks_name old new taking taking_after status → ChecksRooms P names old new taking taking_after status

-- ---- the whole run

-- the names of the rooms that are asked for, in order
abbrev pub AreAsked : CheckCommand → List Name → Tree → Type 0
AreAsked All names tree = AreRoomNames tree names
AreAsked (One name) names tree = (names ≡ name ∷ []) × (IsFree tree name → ⊥)

-- the room that is asked for first, if one is
abbrev pub first_asked : CheckCommand → Name
first_asked All = []
first_asked (One name) = name

-- What becomes of a check on a store.
pub data ChecksOn (command : CheckCommand) (old new : Stored) (taking taking_after : Taking) (status : ℕ) : Type 0 where
  -- the rooms weren't told
  unlisted : IsHalted IsListable (first_asked command) old new taking taking_after status → ChecksOn command old new taking taking_after status
  -- no room has the name
  absent : (name : Name) → command ≡ One name → OfTold IsListable (λ tree. IsFree tree name) old → IsReported no_file_line 1 taking taking_after status → ChecksOn command old new taking taking_after status
  -- the rooms were checked
  checked : (names : List Name) → OfTold IsListable (AreAsked command names) old → ChecksRooms (AreThere names) names old new taking taking_after status → ChecksOn command old new taking taking_after status

-- What becomes of a run: the rooms that its words ask for are checked by looks alone, or its words are no command.
pub data CheckCourse (words : List (List ℕ)) (e : Ends) (status : ℕ) : Type 0 where
  usage : ((command : CheckCommand) → IsCheckCommand words command → ⊥) → IsUntouched e → IsSaid usage_line e → status ≡ 2 → CheckCourse words e status
  checks : (command : CheckCommand) (after : Stored) → IsCheckCommand words command → e.stored_after ≡ Some after → IsLookedAt e.stored after → ChecksOn command e.stored after e.taking e.taking_after status → CheckCourse words e status
