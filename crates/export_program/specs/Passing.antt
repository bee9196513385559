-- Files that are written out, one after the other, on one mount.
use Rattle.std.specs.Prelude.{◌≡◌, ◌⊎◌, ℕ, Bool, true, false, max, List, [], ◌∷◌, ◌++◌, reverse, Option, Ok, Err}
use Rattle.plfs_types.specs.Names.{IsLogicalName}
use Rattle.edge_io.specs.Sink.{Taking}
use Rattle.mount_model.specs.declared.stuck.Stuck.{Stuck as Trouble}
use Rattle.mount_model.specs.State.{State}
use Rattle.lone_flow.specs.Driving.{BeginsToMake, Makes}
use Rattle.actor_core.specs.Names.{names_program}
use Rattle.program_ends.specs.Reported.{IsReported}
use Rattle.program_ends.specs.Output.{IsPrinted, IsCutOff}
use Rattle.export_program.specs.declared.filling.Filled.{Filled}
use Rattle.export_program.specs.Filling.{BeginsToFill, Fills}
use Rattle.export_program.specs.Shelf.{Deed}
use Rattle.export_program.specs.declared.filling.Filled.TheVariants.{Stuck}
use Rattle.export_program.specs.Troubles.{IsTrueTrouble}
use Rattle.export_program.specs.Telling.{filled_line, filled_status, is_last, stuck_status, stuck_text}

-- the mount, what was done where files are kept, and what the sink of the lines has taken
pub record At : Type 0 where
  pub state : State
  pub deeds : Option (List Deed)
  pub taking : Taking

abbrev pub at : State → Option (List Deed) → Taking → At
at state deeds taking = record { state = state; deeds = deeds; taking = taking }

-- The file's line was printed. Or it could not be, or memory was refused for it, and the run ends.
pub data SaysFilled (name : List ℕ) (told : Filled) (taking taking_after : Taking) (status : ℕ) (ends : Bool) : Type 0 where
  said : IsPrinted (filled_line name told) taking taking_after → status ≡ filled_status told → ends ≡ is_last told → SaysFilled name told taking taking_after status ends
  cut_off : IsCutOff (filled_line name told) taking taking_after → status ≡ 6 → ends ≡ true → SaysFilled name told taking taking_after status ends
  starved : taking_after ≡ taking → status ≡ 3 → ends ≡ true → SaysFilled name told taking taking_after status ends

-- The file was written out, and its line printed. Its trouble is told truly. Or memory was refused before, and the run ends.
pub data PassesFile (name : List ℕ) (old new : At) (status : ℕ) (ends : Bool) : Type 0 where
  fills : (told : Filled) → Fills name old.state old.deeds told new.state new.deeds → ((why : Trouble) → told ≡ Stuck why → IsTrueTrouble old.state why new.state) → SaysFilled name told old.taking new.taking status ends → PassesFile name old new status ends
  broke_off : BeginsToFill name old.state old.deeds new.state new.deeds → new.taking ≡ old.taking → status ≡ 3 → ends ≡ true → PassesFile name old new status ends

-- a name that no file can have is passed over
pub data Passes (name : List ℕ) (old new : At) (status : ℕ) (ends : Bool) : Type 0 where
  passes : IsLogicalName name → PassesFile name old new status ends → Passes name old new status ends
  none : (IsLogicalName name → ⊥) → new ≡ old → status ≡ 0 → ends ≡ false → Passes name old new status ends

-- These were passed, the last of them first, and this is the greatest of their statuses. The run ends with none but the first of them, if with that.
abbrev pub HavePassed : At → List (List ℕ) → At → Bool → ℕ → Type 0
HavePassed old [] new ends greatest = (new ≡ old) × (ends ≡ false) × (greatest ≡ 0)
HavePassed old (name ∷ names) new ends greatest = (mid : At) × (so_far : ℕ) × (status : ℕ) × HavePassed old names mid false so_far × Passes name mid new status ends × (greatest ≡ max so_far status)

-- The last names were passed, up to all of them or to the first one with which the run ends. This is the greatest status.
pub record WritesEach (names : List (List ℕ)) (old new : At) (status : ℕ) : Type 0 where
  pub left : List (List ℕ)
  pub passed : List (List ℕ)
  pub are : names ≡ left ++ passed
  pub ends : Bool
  pub have : HavePassed old passed new ends status
  pub until : (left ≡ []) ⊎ (ends ≡ true)

-- The store named its files, and these were written out in this order. Or it didn't, which was said, and is told truly; or memory was refused.
pub data WritesAll (old new : At) (status : ℕ) : Type 0 where
  listed : (names : List (List ℕ)) (mid : State) → Makes names_program old.state (Ok names) mid → WritesEach (reverse names) (at mid old.deeds old.taking) new status → WritesAll old new status
  unlisted : (why : Trouble) → Makes names_program old.state (Err why) new.state → IsTrueTrouble old.state why new.state → new.deeds ≡ old.deeds → IsReported (stuck_text why) (stuck_status why) old.taking new.taking status → WritesAll old new status
  unnamed : BeginsToMake names_program old.state new.state → new.deeds ≡ old.deeds → new.taking ≡ old.taking → status ≡ 3 → WritesAll old new status
