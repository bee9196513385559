-- The number of a sync.
use Rattle.std.proofs.Common.{◌≡◌, ℕ, List, ap, arith}
use Rattle.std.specs.Prelude.{Ok}
use Rattle.mount_model.specs.declared.row.Row.{Row}
use Rattle.mount_model.specs.Table.{row_of}
use Rattle.mount_model.specs.State.{State}
use Rattle.mount_model.specs.History.{Event, state_after}
use Rattle.mount_sound.specs.Owed.{IsLawful}
use Rattle.writer_flow.specs.declared.handle.WriterHandle.{WriterHandle}
use Rattle.writer_flow.specs.declared.handle.WriterOut.{WriterOut}
use Rattle.writer_flow.specs.Syncing.{sync_program}
use Rattle.mount_model.specs.Running.{Runs}
use Rattle.writer_laws.specs.Counting.{entry_count, writes_told, StaysIn}
use Rattle.writer_laws.specs.Knowing.{HasRow, Knows}
use Rattle.writer_laws.proofs.Rows.{some_eq}
use Rattle.writer_laws.proofs.Histories.{counted}
use Rattle.writer_laws.proofs.Machines.{sync_ends}

pub sync_counts : (caller : ℕ) (handle : WriterHandle) (new row : Row) (start : State) (before during : List Event) (out : WriterOut) (n : ℕ) → HasRow caller handle.writer new start → entry_count new ≡ 0 → IsLawful start before → StaysIn handle.writer before → Knows caller handle row (state_after start before) → IsLawful (state_after start before) during → Runs caller (sync_program handle) during out → out.result ≡ Ok n → n ≡ writes_told handle.writer before
sync_counts caller handle new row start before during out n h none l s k l' r e =
    let c = counted caller handle.writer new start before h l s in
    let same : c.row ≡ row = some_eq c.row row (row_of handle.writer (state_after start before).table.writers) c.has.there k.has.there in
    let entries : entry_count c.row ≡ entry_count row = ap (λ (x : Row). entry_count x) same in
    let number : n ≡ entry_count row = ((sync_ends caller handle row (state_after start before) during out k l' r).number n e).0 in
    omega (arith, c.total)
