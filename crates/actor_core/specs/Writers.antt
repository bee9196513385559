-- The statements on a writer.
use Rattle.std.specs.Prelude.{ℕ, ◌==◌, if◌then◌else◌, List, length, Option, Some, None}
use Rattle.script_lang.specs.declared.line.Why.TheVariants.{AlreadyOpen, NotOpen}
use Rattle.writer_flow.specs.declared.handle.WriterHandle.{WriterHandle}
use Rattle.writer_flow.specs.Opening.{open_program}
use Rattle.writer_flow.specs.Writing.{write_program}
use Rattle.writer_flow.specs.Syncing.{sync_program}
use Rattle.writer_flow.specs.Closing.{close_program}
use Rattle.actor_core.specs.declared.kept.Stop.{Stop}
use Rattle.actor_core.specs.declared.kept.Kept.{Kept}
use Rattle.actor_core.specs.Stopping.{carried}
use Rattle.actor_core.specs.Endings.{refused, stopped, opened, wrote_nothing, wrote, synced, closed}
use Rattle.actor_core.specs.Work.{Work, finishes}

-- refused where the actor has a writer
abbrev pub opens : Kept → Option Stop → List ℕ → Option WriterHandle → Work
opens kept stop name (Some handle) = finishes (refused kept AlreadyOpen)
opens kept stop name None = carried (open_program name kept.host kept.cap) stop (λ left result. finishes (opened kept result)) (finishes (stopped kept))

-- no bytes make no call
abbrev pub writes_bytes : Kept → Option Stop → ℕ → List ℕ → WriterHandle → Work
writes_bytes kept stop at bytes handle =
    if length bytes == 0
    then finishes (wrote_nothing kept at)
    else carried (write_program handle at bytes) stop (λ left out. finishes (wrote kept at (length bytes) out)) (finishes (stopped kept))

-- refused where the actor has no writer, or one that may only leave
abbrev pub writes : Kept → Option Stop → ℕ → List ℕ → Option WriterHandle → Work
writes kept stop at bytes None = finishes (refused kept NotOpen)
writes kept stop at bytes (Some handle) =
    if handle.closing then finishes (refused kept NotOpen) else writes_bytes kept stop at bytes handle

-- refused as a write is
abbrev pub syncs : Kept → Option Stop → Option WriterHandle → Work
syncs kept stop None = finishes (refused kept NotOpen)
syncs kept stop (Some handle) =
    if handle.closing
    then finishes (refused kept NotOpen)
    else carried (sync_program handle) stop (λ left out. finishes (synced kept out)) (finishes (stopped kept))

-- refused where the actor has no writer
abbrev pub closes : Kept → Option Stop → Option WriterHandle → Work
closes kept stop None = finishes (refused kept NotOpen)
closes kept stop (Some handle) = carried (close_program handle) stop (λ left out. finishes (closed kept out)) (finishes (stopped kept))
