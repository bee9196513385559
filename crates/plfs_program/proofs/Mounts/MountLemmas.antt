-- The lines of a run, where memory wasn't refused.
use Rattle.std.proofs.Common.{ℕ, ◌≡◌, false, List, Option, IfOk, Result, Ok, Err}
use Rattle.store_api.specs.Acts.{Stored}
use Rattle.script_lang.specs.declared.line.Line.{Line}
use Rattle.script_lang.specs.declared.script.Script.{Script}
use Rattle.script_lang.specs.Ranges.{FitsScript}
use Rattle.mount_model.specs.State.{State}
use Rattle.mount_model.specs.Mounting.{IsMounted}
use Rattle.mount_model.specs.declared.mount_trouble.MountTrouble.{MountTrouble}
use Rattle.mount_model.specs.Failing.{FailsToMount}
use Rattle.program_ends.specs.Mounting.{IsUnmounted}
use Rattle.plfs_program.specs.Lines.{AreLinesOf, unmounted, mounted}
use Rattle.program_ends.specs.Outcomes.{has_line, is_damage}
use Rattle.program_ends.specs.SoundTrees.{TellsSoundTree}
use Rattle.plfs_program.specs.Ways.{Way, HasLines}
use Rattle.plfs_program.proofs.Courses.Calls.{was_played}
use Rattle.plfs_program.proofs.Courses.Plain.{undamaged_on}

pub all_mounted : {E : Type 0} (way : Way) (times : Option (List ℕ)) (before after : Stored) (script : Script) (start end : State) (result : Result (List Line) E) → FitsScript script → IsMounted 0 times before start → after ≡ end.store
    → IfOk result (λ lines. HasLines way script start lines end) → IfOk result (AreLinesOf way times before after script)
all_mounted way times before after script start end (Ok lines) fits made left play = mounted (was_played way times before after script lines start end fits made play left)
all_mounted way times before after script start end (Err e) fits made left play = tt

pub all_undamaged : {E : Type 0} (way : Way) (times : Option (List ℕ)) (before : Stored) (script : Script) (start end : State) (result : Result (List Line) E) → FitsScript script → IsMounted 0 times before start
    → IfOk result (λ lines. HasLines way script start lines end) → IfOk result (λ lines. TellsSoundTree before → has_line is_damage lines ≡ false)
all_undamaged way times before script start end (Ok lines) fits made play = undamaged_on way times before script lines start end fits made play
all_undamaged way times before script start end (Err e) fits made play = tt

pub all_unmounted : {E : Type 0} (way : Way) (times : Option (List ℕ)) (before after : Stored) (why : MountTrouble) (script : Script) (result : Result (List Line) E) → FailsToMount before why after → IfOk result (IsUnmounted why)
    → IfOk result (AreLinesOf way times before after script)
all_unmounted way times before after why script (Ok lines) failed only = unmounted why failed only
all_unmounted way times before after why script (Err e) failed only = tt
