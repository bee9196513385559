-- A handle outlasts the calls that its caller makes on nothing or on other writers.
use Rattle.std.proofs.Common.{◌≡◌, ℕ, List, [], ◌∷◌}
use Rattle.std.proofs.lemmas.List.Elements.{All-head, All-tail}
use Rattle.mount_model.specs.declared.row.Row.{Row}
use Rattle.mount_model.specs.State.{State}
use Rattle.mount_model.specs.History.{Event, state_after}
use Rattle.mount_sound.specs.Owed.{IsLawful}
use Rattle.writer_flow.specs.declared.handle.WriterHandle.{WriterHandle}
use Rattle.writer_laws.specs.Knowing.{Knows}
use Rattle.writer_laws.specs.Waiting.{LeavesAlone, LetsBe}
use Rattle.writer_laws.proofs.Stops.{spared_row}

pub handle_waits : (caller : ℕ) (handle : WriterHandle) (row : Row) (start : State) (events : List Event) → Knows caller handle row start → IsLawful start events → LetsBe caller handle.writer events → Knows caller handle row (state_after start events)
handle_waits caller handle row start [] knows legal spared = knows
handle_waits caller handle row start (event ∷ events) knows legal spared =
    let has = spared_row caller handle.writer row start event.caller event.ask event.reply event.after (All-head (λ (e : Event). e.caller ≡ caller → LeavesAlone handle.writer e.ask) event events spared) knows.has legal.1 in
    handle_waits caller handle row event.after events (record { has = has; pending = knows.pending }) legal.2 (All-tail (λ (e : Event). e.caller ≡ caller → LeavesAlone handle.writer e.ask) event events spared)
