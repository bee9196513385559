-- A caller's writer over a history.
use Rattle.std.proofs.Common.{ℕ, ◌+◌, List, [], ◌∷◌, arith}
use Rattle.mount_model.specs.declared.row.Row.{Row}
use Rattle.mount_model.specs.State.{State}
use Rattle.mount_model.specs.History.{Event, state_after}
use Rattle.mount_sound.specs.Owed.{IsLawful}
use Rattle.writer_laws.specs.Counting.{writes_told, entry_count, StaysIn}
use Rattle.writer_laws.specs.Knowing.{HasRow, HasCount}
use Rattle.writer_laws.proofs.Stops.{any_kept}

-- while it is not taken out, it has one entry more for each of its writes that was told
pub counted : (me w : ℕ) (row : Row) (start : State) (events : List Event) → HasRow me w row start → IsLawful start events → StaysIn w events → HasCount me w (entry_count row + writes_told w events) (state_after start events)
counted me w row start [] h l s = record { row = row; has = h; total = omega arith }
counted me w row start (event ∷ events) h l s =
    let k = any_kept me w row start event.caller event.ask event.reply event.after h l.1 s.0 in
    let c = counted me w k.after event.after events k.has l.2 s.1 in
    record { row = c.row; has = c.has; total = omega (arith, c.total, k.total) }
