-- From the parts of a run to its course.
use Rattle.std.proofs.Common.{ℕ, ◌≡◌, ◌⊎◌, true, false, List, Some, subst, inl, inr}
use Rattle.plfs_types.specs.Counts.{HasRisen}
use Rattle.store_api.specs.Acts.{Stored}
use Rattle.script_lang.specs.declared.line.Line.{Line}
use Rattle.script_lang.specs.declared.script.Script.{Script}
use Rattle.program_ends.specs.Leaving.{Leaves}
use Rattle.plfs_program.specs.Lines.{AreLinesOf}
use Rattle.program_ends.specs.Outcomes.{has_line, is_damage, is_fault, status_of}
use Rattle.program_ends.specs.Output.{IsPrinted, IsCutOff}
use Rattle.program_ends.specs.Ends.{Ends, IsSaid}
use Rattle.plfs_program.specs.Playing.{PlayCourse, printed, cut_off, exhausted}
use Rattle.plfs_program.specs.Course.{InputCourse}
use Rattle.plfs_program.specs.Showing.{Shows}
use Rattle.program_ends.specs.SoundTrees.{TellsSoundTree}
use Rattle.plfs_program.specs.Ways.{Way, HasBegun}

-- what was said of a text is said of a line that is the same
pub said_as : (line shown : List ℕ) (e : Ends) → shown ≡ line → IsSaid shown e → IsSaid line e
said_as line shown e same said = let P : List ℕ → Type 0 = λ l. IsSaid l e in subst P same said

-- the same of a slice that shows the bytes
pub course_of_slice : (way : Way) (bytes shown : List ℕ) (e : Ends) (status : ℕ) → shown ≡ bytes → InputCourse way shown e status → InputCourse way bytes e status
course_of_slice way bytes shown e status same course = let P : List ℕ → Type 0 = λ b. InputCourse way b e status in subst P same course

-- memory was refused, and the store is so
pub left_so : (way : Way) (script : Script) (shows : Shows) (e : Ends) (status : ℕ) (after : Stored) → e.stored_after ≡ Some after → Leaves (HasBegun way script) e.times e.stored after → e.taking_after ≡ e.taking → status ≡ 3 → PlayCourse way script shows e status
left_so way script shows e status after is lawful untold told = exhausted (record { after = after; left = is; lawful = lawful }) untold told

-- how the printing of what is shown ended
abbrev pub Reported : Shows → List Line → Ends → ℕ → Type 0
Reported shows lines e status =
    ((status ≡ status_of (shows.decide lines)) × IsPrinted (shows.text lines) e.taking e.taking_after)
    ⊎ ((status ≡ 6) × IsCutOff (shows.text lines) e.taking e.taking_after)
    ⊎ ((status ≡ 3) × (e.taking_after ≡ e.taking))

-- a script whose lines were printed, or cut off, or for which memory was refused at last
pub reported : (way : Way) (script : Script) (shows : Shows) (lines : List Line) (e : Ends) (status : ℕ) (after : Stored)
    → e.stored_after ≡ Some after → Leaves (HasBegun way script) e.times e.stored after → AreLinesOf way e.times e.stored after script lines → (has_line is_fault lines ≡ true → HasRisen e.stored.faults after.faults) → (TellsSoundTree e.stored → has_line is_damage lines ≡ false)
    → Reported shows lines e status → PlayCourse way script shows e status
reported way script shows lines e status after is lawful in_turn cause undamaged (inl (told, all)) =
    printed lines (record { after = after; left = is; in_turn = in_turn; cause = cause; undamaged = undamaged }) all told
reported way script shows lines e status after is lawful in_turn cause undamaged (inr (inl (told, part))) =
    cut_off lines (record { after = after; left = is; in_turn = in_turn; cause = cause; undamaged = undamaged }) part told
reported way script shows lines e status after is lawful in_turn cause undamaged (inr (inr (told, untold))) =
    left_so way script shows e status after is lawful untold told
