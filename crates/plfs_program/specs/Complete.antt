-- Runs in which nothing broke.
use Rattle.std.specs.Prelude.{ℕ, ◌≡◌, ◌⊎◌, List, Some}
use Rattle.plfs_types.specs.Counts.{HasRisen}
use Rattle.edge_io.specs.Source.{Given}
use Rattle.store_api.specs.Acts.{Stored}
use Rattle.command_line.specs.declared.commands.Command.{Command}
use Rattle.command_line.specs.declared.commands.Command.TheVariants.{Pack}
use Rattle.command_line.specs.Commands.{IsCommand}
use Rattle.pack_input.specs.Input.{Fault as InputFault, HasFault as HasInputFault}
use Rattle.script_lang.specs.Faults.{Fault, HasFault}
use Rattle.plfs_program.specs.Course.{IsInput}
use Rattle.program_ends.specs.Ends.{Ends}
use Rattle.plfs_program.specs.Ways.{Way, command_of}

-- the words are a command's that is served, and where that reads a script or small files, what was read has no fault
pub record IsAsked (Serves : Command → Type 0) (words : List (List ℕ)) (given after : Given) : Type 0 where
  pub command : Command
  pub served : Serves command
  pub spelled : IsCommand words command
  pub faultless : (way : Way) (bytes : List ℕ) (fault : Fault) → IsCommand words (command_of way) → IsInput bytes given after → HasFault bytes fault → ⊥
  pub packable : (name : List ℕ) (region : ℕ) (bytes : List ℕ) (fault : InputFault) → IsCommand words (Pack name region) → IsInput bytes given after → HasInputFault bytes fault → ⊥

-- no count of the source, of the sink or of the store has risen
pub record HadNoTrouble (given after : Given) (e : Ends) : Type 0 where
  pub source : HasRisen given.faults after.faults → ⊥
  pub sink : HasRisen e.taking.faults e.taking_after.faults → ⊥
  pub stalls : HasRisen e.taking.stalls e.taking_after.stalls → ⊥
  pub store : (left : Stored) → e.stored_after ≡ Some left → HasRisen e.stored.faults left.faults → ⊥
