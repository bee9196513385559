-- A put adds one write to those of its writer.
use Rattle.std.proofs.Common.{◌≡◌, ℕ, List, [], ◌∷◌, ◌++◌, Option, Some, Ok, refl, sym, ap, ◌∙◌, subst}
use Rattle.std.proofs.lemmas.List.Elements.{All-from_recursion}
use Rattle.turn_object.specs.Callers.{made_by}
use Rattle.mount_model.specs.declared.call.Ask.{Ask}
use Rattle.mount_model.specs.declared.call.Call.TheVariants.{Greet}
use Rattle.mount_model.specs.declared.row.Row.{Row}
use Rattle.mount_model.specs.History.{Event, state_after}
use Rattle.mount_model.specs.State.{State}
use Rattle.mount_model.specs.Table.{row_of}
use Rattle.mount_sound.specs.Ledger.{Written}
use Rattle.mount_sound.specs.Owed.{IsLawful}
use Rattle.mount_model.specs.Running.{unbroken}
use Rattle.writer_flow.specs.declared.handle.WriterHandle.{WriterHandle}
use Rattle.writer_flow.specs.declared.handle.WriterOut.{WriterOut}
use Rattle.writer_flow.specs.Writing.{write_program}
use Rattle.writer_laws.specs.Knowing.{HasRow, KeepsHandle, Knows}
use Rattle.writer_laws.specs.Waiting.{LeavesAlone, LetsBe}
use Rattle.writer_laws.proofs.Facts.{Goes, goes, handle_waits, some_eq, write_ends, write_list}
use Rattle.reader_laws.specs.Moments.{Dropping, Moment, issued_by, moment_after, next_moment}
use Rattle.reader_laws.proofs.Gathered.Facts.{follows}
use Rattle.packing_laws.proofs.OnlyUnits.Alone.{IsMade, Reaches, greeting_issues, made_reaches}
use Rattle.packing_laws.proofs.Puts.Writing.{OneWrite, is_writing, write_of}

-- the caller has the writer, whose writes are these
pub record HasWritten (m : Moment) (handle : WriterHandle) (d : Dropping) (writes : List Written) : Type 0 where
  pub row : Row
  pub knows : Knows 0 handle row m.state
  pub is_writer : handle.writer ≡ d.writer
  pub room : row.room ≡ d.room
  pub host : row.host ≡ d.host
  pub issued : issued_by m d ≡ writes

-- a greeting changes nothing of it
pub lets_be : (writer : ℕ) (greeting : Event) → greeting.ask ≡ unbroken Greet → LetsBe 0 writer (greeting ∷ [])
lets_be writer greeting asks = All-from_recursion (λ (event : Event). event.caller ≡ 0 → LeavesAlone writer event.ask) (greeting ∷ [])
    (λ own. subst (λ (a : Ask). LeavesAlone writer a) (sym asks) (refl, λ no. no), tt)

pub waits : (m : Moment) (handle : WriterHandle) (row : Row) (greeting : Event) (events : List Event) → IsLawful m.state (greeting ∷ events) → greeting.ask ≡ unbroken Greet → Knows 0 handle row m.state → Knows 0 handle row greeting.after
waits m handle row greeting events lawful asks knows = handle_waits 0 handle row m.state (greeting ∷ []) knows (lawful.0, lawful.1, tt) (lets_be handle.writer greeting asks)

-- a put that was made
pub record Adds (m : Moment) (handle next : WriterHandle) (at : ℕ) (block : List ℕ) (d : Dropping) (writes : List Written) (end : State) : Type 0 where
  pub reaches : Reaches m end
  pub w : Written
  pub at_is : w.entry.at ≡ at
  pub bytes_are : w.bytes ≡ block
  pub has : HasWritten reaches.to next d (writes ++ w ∷ [])

pub adds : (m : Moment) (handle next : WriterHandle) (at : ℕ) (block : List ℕ) (stamp : ℕ) (d : Dropping) (writes : List Written) (out : WriterOut) (end : State) → HasWritten m handle d writes → IsMade (write_program handle at block) m out end → out.result ≡ Ok stamp → out.handle ≡ Some next
    → Adds m handle next at block d writes end
adds m handle next at block stamp d writes out end h b ok back =
    let g : Moment = next_moment m b.greeting in
    let r : Reaches m end = made_reaches (write_program handle at block) m out end b in
    let knows : Knows 0 handle h.row g.state = waits m handle h.row b.greeting b.events b.lawful b.asks h.knows in
    let o : OneWrite g at block d b.events = write_of g handle.writer at block stamp h.row d b.events knows.has h.is_writer h.room b.lawful.2 (is_writing g handle h.row at block stamp b.events out knows.has b.lawful.2 b.runs ok) in
    let k : KeepsHandle 0 handle out (state_after g.state b.events) = write_ends 0 handle h.row at block g.state b.events out knows b.lawful.2 b.runs in
    let there : Goes 0 handle.writer h.row b.events (state_after g.state b.events) = goes 0 handle.writer h.row g.state b.events knows.has b.lawful.2 (write_list handle at block (made_by 0 b.events) out b.runs).stays in
    let same : k.handle ≡ next = some_handle k.handle next out.handle k.kept back in
    let writer : k.handle.writer ≡ handle.writer = k.same in
    let has : HasRow 0 handle.writer k.row (state_after g.state b.events) = subst (λ n. HasRow 0 n k.row (state_after g.state b.events)) writer k.knows.has in
    let row : k.row ≡ there.after = some_eq k.row there.after (row_of handle.writer (state_after g.state b.events).table.writers) has.there there.has.there in
    let at_end : (moment_after g b.events).state ≡ state_after g.state b.events = (follows g b.events).0 in
    record {
      reaches = r;
      w = o.w;
      at_is = o.at_is;
      bytes_are = o.bytes_are;
      has = record {
        row = k.row;
        knows = subst (λ (s : State). Knows 0 next k.row s) (sym at_end) (subst (λ x. Knows 0 x k.row (state_after g.state b.events)) same k.knows);
        is_writer = ap (λ (x : WriterHandle). x.writer) (sym same) ∙ writer ∙ h.is_writer;
        room = ap (λ (x : Row). x.room) row ∙ there.placed.0 ∙ h.room;
        host = ap (λ (x : Row). x.host) row ∙ there.placed.1 ∙ h.host;
        issued = o.issued ∙ ap (λ ws. ws ++ o.w ∷ []) (greeting_issues (write_program handle at block) m out end b d.room d.writer ∙ h.issued);
      };
    }
  where
    some_handle : (a c : WriterHandle) (o : Option WriterHandle) → o ≡ Some a → o ≡ Some c → a ≡ c
    some_handle a c o p q = cc
