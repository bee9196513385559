-- How a statement on a reader ends that shows nothing of a file.
use Rattle.std.specs.Prelude.{◌≡◌, ⊤, ◌++◌}
use Rattle.plfs_types.specs.Counts.{HasRisen}
use Rattle.mount_model.specs.History.{state_after}
use Rattle.script_lang.specs.declared.line.Outcome.{Outcome}
use Rattle.script_lang.specs.declared.line.Outcome.TheVariants.{Stopped, Gone, Refused, Fault}
use Rattle.script_lang.specs.declared.line.Why.{Why}
use Rattle.script_lang.specs.declared.line.Why.TheVariants.{NoFile}
use Rattle.reader_laws.specs.Moments.{Moment}
use Rattle.headline_laws.specs.Opening.{Stretch}

-- the store's count of faults rose in the stretch
abbrev pub FaultRose : Moment → Stretch → Type 0
FaultRose start stretch = HasRisen (state_after start.state stretch.before).store.faults (state_after start.state (stretch.before ++ stretch.events)).store.faults

-- the statement was stopped, or it made no call since its actor was stopped before, or the store failed
abbrev pub EndsEarly : Moment → Stretch → Outcome → Type 0
EndsEarly start stretch Stopped = ⊤
EndsEarly start stretch Gone = ⊤
EndsEarly start stretch Fault = FaultRose start stretch
EndsEarly start stretch other = ⊥

-- the statement was refused for this, or its actor was stopped before
abbrev pub DoesNothing : Why → Outcome → Type 0
DoesNothing why (Refused because) = because ≡ why
DoesNothing why Gone = ⊤
DoesNothing why other = ⊥

-- no file was opened: there is none of this name, or the statement ended early
abbrev pub OpensNone : Moment → Stretch → Outcome → Type 0
OpensNone start stretch (Refused because) = because ≡ NoFile
OpensNone start stretch other = EndsEarly start stretch other
