-- How a run goes, from its words to its status.
use Rattle.std.specs.Prelude.{ℕ, ◌≡◌, ◌+◌, ◌^◌, List, codes}
use Rattle.plfs_types.specs.Counts.{HasRisen}
use Rattle.edge_io.specs.Source.{Given}
use Rattle.script_lang.specs.declared.script.Script.{Script}
use Rattle.script_lang.specs.Faults.{Fault, HasFault}
use Rattle.script_lang.specs.Grammar.{IsScript}
use Rattle.command_line.specs.declared.commands.Command.{Command}
use Rattle.command_line.specs.declared.commands.Command.TheVariants.{Cat, Migrate, Names, Pack, Unpack}
use Rattle.command_line.specs.Commands.{IsCommand}
use Rattle.program_ends.specs.Usage.{usage_line}
use Rattle.plfs_program.specs.Catting.{CatCourse}
use Rattle.plfs_program.specs.Commands.{IsPlanned}
use Rattle.program_ends.specs.Ends.{Ends, IsUntouched, IsSaid}
use Rattle.plfs_program.specs.Faults.{fault_line}
use Rattle.plfs_program.specs.Input.{IsWholeInput}
use Rattle.plfs_program.specs.Migrating.{MigrateCourse}
use Rattle.plfs_program.specs.Packing.{PackInputCourse}
use Rattle.plfs_program.specs.Playing.{PlayCourse}
use Rattle.plfs_program.specs.Showing.{all_lines, shows_of}
use Rattle.plfs_program.specs.SmallFiles.{NamesCourse, UnpackCourse}
use Rattle.plfs_program.specs.Ways.{Way, by_turns, command_of}
use Rattle.plfs_program.specs.declared.commands.Plan.{Plan}

-- What becomes of an input of these bytes, whose script is played in this way. Memory was refused before the mounting where it is starved.
pub data InputCourse (way : Way) (bytes : List ℕ) (e : Ends) (status : ℕ) : Type 0 where
  faulty : (fault : Fault) → HasFault bytes fault → IsUntouched e → IsSaid (fault_line fault.line fault.kind) e → status ≡ 2
      → InputCourse way bytes e status
  played : (script : Script) → IsScript bytes script → PlayCourse way script all_lines e status → InputCourse way bytes e status
  starved : IsUntouched e → e.taking_after ≡ e.taking → status ≡ 3 → InputCourse way bytes e status

-- the input was read to its end, or to one byte past the limit of a script, and these are its bytes
abbrev pub IsInput : List ℕ → Given → Given → Type 0
IsInput bytes given after = IsWholeInput (2 ^ 20 + 1) bytes given after

-- What becomes of a run, where these commands are served: one case for each kind of end, with its status. Only `play`, `run` and `pack`
-- read the input. Where memory was refused before the mounting, no read of it had failed.
pub data Course (Serves : Command → Type 0) (words : List (List ℕ)) (given after : Given) (e : Ends) (status : ℕ) : Type 0 where
  usage : ((command : Command) → Serves command → IsCommand words command → ⊥) → after ≡ given → IsUntouched e → IsSaid usage_line e → status ≡ 2
      → Course Serves words given after e status
  unread : (way : Way) → Serves (command_of way) → IsCommand words (command_of way) → HasRisen given.faults after.faults → IsUntouched e → e.taking_after ≡ e.taking → status ≡ 5 → Course Serves words given after e status
  read : (way : Way) (bytes : List ℕ) → Serves (command_of way) → IsCommand words (command_of way) → IsInput bytes given after → InputCourse way bytes e status → Course Serves words given after e status
  planned : (command : Command) (plan : Plan) → IsCommand words command → IsPlanned command plan → after ≡ given → PlayCourse by_turns plan.script (shows_of plan.shown) e status → Course Serves words given after e status
  cats : (name : List ℕ) → IsCommand words (Cat name) → after ≡ given → CatCourse name e status → Course Serves words given after e status
  migrates : (name : List ℕ) → IsCommand words (Migrate name) → after ≡ given → MigrateCourse name e status → Course Serves words given after e status
  packs_unread : (name : List ℕ) (region : ℕ) → IsCommand words (Pack name region) → HasRisen given.faults after.faults → IsUntouched e → e.taking_after ≡ e.taking → status ≡ 5 → Course Serves words given after e status
  packs : (name : List ℕ) (region : ℕ) (bytes : List ℕ) → IsCommand words (Pack name region) → IsInput bytes given after → PackInputCourse name region bytes e status → Course Serves words given after e status
  unpacks : (name file : List ℕ) → IsCommand words (Unpack name file) → after ≡ given → UnpackCourse name file e status → Course Serves words given after e status
  names_all : (name : List ℕ) → IsCommand words (Names name) → after ≡ given → NamesCourse name e status → Course Serves words given after e status
  hungry : after.faults ≡ given.faults → IsUntouched e → e.taking_after ≡ e.taking → status ≡ 3 → Course Serves words given after e status
