-- The write that a put makes, as the ledger has it.
use Rattle.std.proofs.Common.{◌≡◌, ℕ, List, [], ◌∷◌, ◌++◌, Some, Ok, refl, sym, ap, ◌∙◌, subst, arith}
use Rattle.turn_object.specs.Callers.{made_by}
use Rattle.mount_model.proofs.Stories.Facts.{entries_both}
use Rattle.mount_model.specs.declared.call.Ask.{Ask}
use Rattle.mount_model.specs.declared.call.Call.TheVariants.{Write}
use Rattle.mount_model.specs.declared.reply.Reply.{Reply}
use Rattle.mount_model.specs.declared.reply.Reply.TheVariants.{Wrote}
use Rattle.mount_model.specs.declared.row.Row.{Row}
use Rattle.mount_model.specs.History.{Event, state_after}
use Rattle.mount_model.specs.State.{State}
use Rattle.mount_model.specs.Table.{row_of}
use Rattle.mount_sound.specs.Issued.{issued_after, written_by}
use Rattle.mount_sound.specs.Ledger.{Ledger, Written}
use Rattle.mount_sound.specs.Owed.{IsLawful}
use Rattle.mount_sound.proofs.Facts.{lawful_first}
use Rattle.mount_model.specs.Running.{Runs, unbroken}
use Rattle.writer_flow.specs.declared.handle.WriterHandle.{WriterHandle}
use Rattle.writer_flow.specs.declared.handle.WriterOut.{WriterOut}
use Rattle.writer_flow.specs.Writing.{write_program}
use Rattle.writer_laws.specs.Counting.{StaysIn, wrote_by, writes_told}
use Rattle.writer_laws.specs.Knowing.{HasRow}
use Rattle.writer_laws.proofs.Facts.{Goes, WriteTold, WroteBy, goes, write_list, writes_both, wrote_by_it}
use Rattle.reader_laws.specs.Moments.{Dropping, Moment, issued_by, moment_after, next_moment}
use Rattle.reader_laws.proofs.Gathered.Facts.{follows, moment-append}
use Rattle.packing_laws.proofs.Puts.Issuing.{counted, none_told_issued, one_issued, stays_first}

-- ---- one write was answered, and no other

-- the event that was the write, and that no other is one
pub record IsWriting (id at : ℕ) (block : List ℕ) (stamp : ℕ) (events : List Event) : Type 0 where
  pub first : List Event
  pub event : Event
  pub rest : List Event
  pub all : events ≡ first ++ event ∷ rest
  pub asks : event.ask ≡ unbroken (Write id at block)
  pub told : event.reply ≡ Wrote stamp
  pub none_first : writes_told id first ≡ 0
  pub none_rest : writes_told id rest ≡ 0
  pub stays : StaysIn id (made_by 0 first)

parts_none : (id : ℕ) (first rest : List Event) (event : Event) → writes_told id (first ++ event ∷ rest) ≡ 1 → wrote_by id event.ask.call event.reply ≡ 1 → (writes_told id first ≡ 0) × (writes_told id rest ≡ 0)
parts_none id first rest event total here = (let parts = writes_both id first (event ∷ rest) in (omega (arith, total, here, parts), omega (arith, total, here, parts)))

own_one : (id at : ℕ) (block : List ℕ) (stamp : ℕ) (event : Event) → event.ask ≡ unbroken (Write id at block) → event.reply ≡ Wrote stamp → wrote_by id event.ask.call event.reply ≡ 1
own_one id at block stamp event asks told = by event.ask event.reply asks told
  where
    by : (a : Ask) (r : Reply) → a ≡ unbroken (Write id at block) → r ≡ Wrote stamp → wrote_by id a.call r ≡ 1
    by a r is so = subst (λ (x : Ask). wrote_by id x.call r ≡ 1) (sym is) (subst (λ (y : Reply). wrote_by id (Write id at block) y ≡ 1) (sym so) (counted id id 1 refl))

pub is_writing : (m : Moment) (handle : WriterHandle) (row : Row) (at : ℕ) (block : List ℕ) (stamp : ℕ) (events : List Event) (out : WriterOut) → HasRow 0 handle.writer row m.state → IsLawful m.state events → Runs 0 (write_program handle at block) events out → out.result ≡ Ok stamp
    → IsWriting handle.writer at block stamp events
is_writing m handle row at block stamp events out has lawful runs ok =
    let t : WriteTold handle.writer (made_by 0 events) out.result = write_list handle at block (made_by 0 events) out runs in
    let g : Goes 0 handle.writer row events (state_after m.state events) = goes 0 handle.writer row m.state events has lawful t.stays in
    let y : WroteBy 0 handle.writer at block stamp events = wrote_by_it 0 handle at block stamp events out ok runs in
    let total : writes_told handle.writer (y.first ++ y.event ∷ y.rest) ≡ 1 = ap (writes_told handle.writer) (sym y.all) ∙ g.own ∙ t.one stamp ok in
    let none = parts_none handle.writer y.first y.rest y.event total (own_one handle.writer at block stamp y.event y.asks y.told) in
    record {
      first = y.first;
      event = y.event;
      rest = y.rest;
      all = y.all;
      asks = y.asks;
      told = y.told;
      none_first = none.0;
      none_rest = none.1;
      stays = stays_first handle.writer (made_by 0 y.first) (made_by 0 (y.event ∷ y.rest)) (subst (StaysIn handle.writer) (ap (made_by 0) y.all ∙ entries_both 0 y.first (y.event ∷ y.rest)) t.stays);
    }

-- the write as the ledger has it
noted_then : (before : Ledger) (old : State) (a : Ask) (r : Reply) (id at : ℕ) (block : List ℕ) (stamp : ℕ) (row : Row) → a ≡ unbroken (Write id at block) → r ≡ Wrote stamp → row_of id old.table.writers ≡ Some row
    → issued_after before old a.call r row.room id ≡ before row.room id ++ written_by row stamp at block ∷ []
noted_then before old a r id at block stamp row asks told there =
    let P : Ask → Reply → Type 0 = λ x y. issued_after before old x.call y row.room id ≡ before row.room id ++ written_by row stamp at block ∷ [] in
    subst (λ x. P x r) (sym asks) (subst (λ y. P (unbroken (Write id at block)) y) (sym told) (one_issued before old id at block stamp row there))

issued_then : (mid : Moment) (id at : ℕ) (block : List ℕ) (stamp : ℕ) (event : Event) (row : Row) (d : Dropping) → event.ask ≡ unbroken (Write id at block) → event.reply ≡ Wrote stamp → row_of id mid.state.table.writers ≡ Some row → id ≡ d.writer → row.room ≡ d.room
    → issued_by (next_moment mid event) d ≡ issued_by mid d ++ written_by row stamp at block ∷ []
issued_then mid id at block stamp event row d asks told there is_writer in_room =
    let P : ℕ → ℕ → Type 0 = λ n k. (next_moment mid event).issued n k ≡ mid.issued n k ++ written_by row stamp at block ∷ [] in
    subst (λ k. P d.room k) is_writer (subst (λ n. P n id) in_room (noted_then mid.issued mid.state event.ask event.reply id at block stamp row asks told there))

pub record OneWrite (m : Moment) (at : ℕ) (block : List ℕ) (d : Dropping) (events : List Event) : Type 0 where
  pub w : Written
  pub at_is : w.entry.at ≡ at
  pub bytes_are : w.bytes ≡ block
  pub issued : issued_by (moment_after m events) d ≡ issued_by m d ++ w ∷ []

pub write_of : (m : Moment) (id at : ℕ) (block : List ℕ) (stamp : ℕ) (row : Row) (d : Dropping) (events : List Event) → HasRow 0 id row m.state → id ≡ d.writer → row.room ≡ d.room → IsLawful m.state events → IsWriting id at block stamp events → OneWrite m at block d events
write_of m id at block stamp row d events has is_writer room lawful y =
    let first : IsLawful m.state y.first = lawful_first m.state y.first (y.event ∷ y.rest) (subst (λ (es : List Event). IsLawful m.state es) y.all lawful) in
    let wrote : Goes 0 id row y.first (state_after m.state y.first) = goes 0 id row m.state y.first has first y.stays in
    let mid : Moment = moment_after m y.first in
    let there : row_of id mid.state.table.writers ≡ Some wrote.after = ap (λ (s : State). row_of id s.table.writers) (follows m y.first).0 ∙ wrote.has.there in
    let at_d = issued_then mid id at block stamp y.event wrote.after d y.asks y.told there is_writer (wrote.placed.0 ∙ room) in
    let before : issued_by mid d ≡ issued_by m d = none_told_issued m y.first d.room d.writer (ap (λ k. writes_told k y.first) (sym is_writer) ∙ y.none_first) in
    let after : issued_by (moment_after (next_moment mid y.event) y.rest) d ≡ issued_by (next_moment mid y.event) d = none_told_issued (next_moment mid y.event) y.rest d.room d.writer (ap (λ k. writes_told k y.rest) (sym is_writer) ∙ y.none_rest) in
    let whole : moment_after m events ≡ moment_after (next_moment mid y.event) y.rest = ap (moment_after m) y.all ∙ moment-append m y.first (y.event ∷ y.rest) in
    record {
      w = written_by wrote.after stamp at block;
      at_is = refl;
      bytes_are = refl;
      issued = ap (λ (x : Moment). issued_by x d) whole ∙ after ∙ at_d ∙ ap (λ ws. ws ++ written_by wrote.after stamp at block ∷ []) before;
    }
