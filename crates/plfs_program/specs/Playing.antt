-- What becomes of a script that is played, by turns or on threads.
use Rattle.std.specs.Prelude.{ℕ, ◌≡◌, true, false, List, Some}
use Rattle.plfs_types.specs.Counts.{HasRisen}
use Rattle.store_api.specs.Acts.{Stored}
use Rattle.script_lang.specs.declared.line.Line.{Line}
use Rattle.script_lang.specs.declared.script.Script.{Script}
use Rattle.program_ends.specs.Leaving.{IsStoreLeft}
use Rattle.program_ends.specs.Ends.{Ends}
use Rattle.plfs_program.specs.Lines.{AreLinesOf}
use Rattle.program_ends.specs.Outcomes.{has_line, is_damage, is_fault, status_of}
use Rattle.program_ends.specs.Output.{IsPrinted, IsCutOff}
use Rattle.plfs_program.specs.Showing.{Shows}
use Rattle.program_ends.specs.SoundTrees.{TellsSoundTree}
use Rattle.plfs_program.specs.Ways.{Way, HasBegun}

-- These are the lines of the script, played in this way. There is none for a fault that isn't the store's own, and none of damage where the store told a sound tree.
pub record IsPlayedAs (way : Way) (script : Script) (lines : List Line) (e : Ends) : Type 0 where
  pub after : Stored
  pub left : e.stored_after ≡ Some after
  pub in_turn : AreLinesOf way e.times e.stored after script lines
  pub cause : has_line is_fault lines ≡ true → HasRisen e.stored.faults after.faults
  pub undamaged : TellsSoundTree e.stored → has_line is_damage lines ≡ false

-- What becomes of a script that is played in this way, of whose lines this is shown: the text that is printed, and the lines that decide
-- the status.
pub data PlayCourse (way : Way) (script : Script) (shows : Shows) (e : Ends) (status : ℕ) : Type 0 where
  printed : (lines : List Line) → IsPlayedAs way script lines e → IsPrinted (shows.text lines) e.taking e.taking_after → status ≡ status_of (shows.decide lines)
      → PlayCourse way script shows e status
  cut_off : (lines : List Line) → IsPlayedAs way script lines e → IsCutOff (shows.text lines) e.taking e.taking_after → status ≡ 6 → PlayCourse way script shows e status
  exhausted : IsStoreLeft (HasBegun way script) e → e.taking_after ≡ e.taking → status ≡ 3 → PlayCourse way script shows e status
