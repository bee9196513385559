-- How a drain goes, from its words to its status.
use Rattle.std.specs.Prelude.{◌≡◌, ◌⊎◌, ℕ, List, Option, Some, Result, Ok}
use Rattle.std.specs.List.{AllByRecursion}
use Rattle.plfs_types.specs.Counts.{HasRisen}
use Rattle.edge_io.specs.Sink.{Taking}
use Rattle.store_api.specs.Acts.{Stored}
use Rattle.mount_model.specs.declared.mount_trouble.MountTrouble.{MountTrouble}
use Rattle.mount_model.specs.Failing.{FailsToMount}
use Rattle.mount_model.specs.Mounting.{IsMounted}
use Rattle.mount_model.specs.Paths.{Name}
use Rattle.mount_model.specs.State.{State}
use Rattle.script_lang.specs.declared.line.Outcome.{Outcome}
use Rattle.script_lang.specs.declared.line.Outcome.TheVariants.{Fault}
use Rattle.program_ends.specs.Usage.{usage_line}
use Rattle.program_ends.specs.Ends.{Ends, IsSaid, IsUntouched}
use Rattle.program_ends.specs.Reported.{IsReported}
use Rattle.program_ends.specs.Mounting.{unmounted_of}
use Rattle.program_ends.specs.Output.{IsCutOff, IsPrinted}
use Rattle.drain_copy.specs.declared.outcome.Drained.{Drained}
use Rattle.drain_copy.specs.declared.outcome.DrainStuck.{DrainStuck}
use Rattle.drain_copy.specs.Asking.{ends}
use Rattle.drain_copy.specs.Telling.{DrainsOn}
use Rattle.drain_sound.specs.Draining.{Happening}
use Rattle.drain_sound.specs.Views.{mounted_there}
use Rattle.drain_laws.specs.Faults.{WasServed}
use Rattle.drain_program.specs.Driven.{BeginsToDrain, DrainsTo, WereServedBeforeLast, IsDriven}
use Rattle.drain_program.specs.From.{IsDrainFrom, IsDrainOfNone}
use Rattle.drain_program.specs.Reporting.{DrainReport, drain_status, drain_text, had, report_of}
use Rattle.drain_program.specs.Targets.{HasCopiedAll, HasSource, HasTarget, HoldsThroughout, LacksContainer}
use Rattle.drain_program.specs.Words.{IsDrainCommand}

-- A mount was made of the source as it was. Over it, and the target, a drain of this container was driven by caller 0, and that program of it is left. Where
-- the target came from drains of the source's container alone, the store holds a target at each moment; and where the drain ended well, all is copied.
pub record IsDrainOver (name : Name) (times : Option (List ℕ)) (source target : Stored) (left : DrainsOn) (source_end target_end : Stored) : Type 0 where
  pub start : State
  pub end : State
  pub mounted : IsMounted 0 times source start
  pub happened : List Happening
  pub driven : IsDriven name start target happened left end target_end
  pub ends_so : end.store ≡ source_end
  pub holds : (number : ℕ) (from : HasSource number name source) → HasTarget number name source target → HoldsThroughout number name (mounted_there from.sound start) target happened
  pub stays : (number : ℕ) → HasSource number name source → HasTarget number name source target → HasTarget number name source_end target_end
  pub copies : (drained : Drained) → left ≡ ends (Ok drained) → (number : ℕ) → HasSource number name source → HasTarget number name source target → HasCopiedAll number name source target_end
  pub lawful : (number : ℕ) (from : HasSource number name source) → HasTarget number name source target → IsDrainFrom number name (mounted_there from.sound start) target happened left target_end
  pub lacking : (none : LacksContainer name source) → LacksContainer name target → IsDrainOfNone name (mounted_there none.sound start) target happened left target_end

-- The mounting broke off, of which that is said, and no step was made at the target. Or it was drained, and that is said of how it ended.
pub data IsDrainEnd (name : Name) (times : Option (List ℕ)) (source target source_end target_end : Stored) (report : DrainReport) : Type 0 where
  unmounted : (trouble : MountTrouble) (outcome : Outcome) → FailsToMount source trouble source_end → unmounted_of trouble ≡ Some outcome → target_end ≡ target → report ≡ had outcome → IsDrainEnd name times source target source_end target_end report
  mounted : (outcome : Result Drained DrainStuck) (over : IsDrainOver name times source target (ends outcome) source_end target_end) → AllByRecursion (WasServed 0) over.happened → report ≡ report_of outcome → IsDrainEnd name times source target source_end target_end report

-- That is said of the drain, and a fault is told only where a count of faults has risen, the source's or the target's.
pub record IsDrainedAs (name : Name) (report : DrainReport) (e : Ends) (target target_end : Stored) : Type 0 where
  pub after : Stored
  pub left : e.stored_after ≡ Some after
  pub came : IsDrainEnd name e.times e.stored target after target_end report
  pub cause : report ≡ had Fault → HasRisen e.stored.faults after.faults ⊎ HasRisen target.faults target_end.faults

-- memory was refused: as the mounting broke off, or in a drain, or behind it
pub data IsDrainLeft (name : Name) (e : Ends) (target target_end : Stored) : Type 0 where
  broke_off : (after : Stored) → e.stored_after ≡ Some after → (trouble : MountTrouble) → FailsToMount e.stored trouble after → target_end ≡ target → IsDrainLeft name e target target_end
  begun : (after : Stored) → e.stored_after ≡ Some after → (rest : DrainsOn) (over : IsDrainOver name e.times e.stored target rest after target_end) → WereServedBeforeLast over.happened → IsDrainLeft name e target target_end

-- What becomes of it: one line is printed, or a front of it where the sink broke. Where memory was refused there is none.
pub data DrainRun (name : Name) (e : Ends) (target target_end : Stored) (status : ℕ) : Type 0 where
  printed : (report : DrainReport) → IsDrainedAs name report e target target_end → IsPrinted (drain_text report) e.taking e.taking_after → status ≡ drain_status report → DrainRun name e target target_end status
  cut_off : (report : DrainReport) → IsDrainedAs name report e target target_end → IsCutOff (drain_text report) e.taking e.taking_after → status ≡ 6 → DrainRun name e target target_end status
  exhausted : IsDrainLeft name e target target_end → e.taking_after ≡ e.taking → status ≡ 3 → DrainRun name e target target_end status

-- What becomes of these words: they are no drain, and no act is made at all; or the drain is made.
pub data DrainCourse (words : List (List ℕ)) (e : Ends) (target target_end : Stored) (status : ℕ) : Type 0 where
  usage : ((name : Name) → IsDrainCommand words name → ⊥) → IsUntouched e → target_end ≡ target → IsSaid usage_line e → status ≡ 2 → DrainCourse words e target target_end status
  drains : (name : Name) → IsDrainCommand words name → DrainRun name e target target_end status → DrainCourse words e target target_end status

-- ---- on a mount

-- the drain came to its end, and that was reported; or memory was refused in it
pub data DrainsOver (name : Name) (start : State) (target : Stored) (taking : Taking) (end : State) (target_end : Stored) (taking_after : Taking) (status : ℕ) : Type 0 where
  ended_so : (outcome : Result Drained DrainStuck) → DrainsTo name start target outcome end target_end → IsReported (drain_text (report_of outcome)) (drain_status (report_of outcome)) taking taking_after status
      → DrainsOver name start target taking end target_end taking_after status
  was_begun : BeginsToDrain name start target end target_end → taking_after ≡ taking → status ≡ 3 → DrainsOver name start target taking end target_end taking_after status
