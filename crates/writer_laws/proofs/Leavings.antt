-- What the calls of a close tell.
use Rattle.std.proofs.Common.{◌≡◌, ◌⊎◌, ℕ, ◌+◌, Bool, true, false, List, [], ◌∷◌, ◌++◌, Option, Some, None, refl, sym, ap, ◌∙◌, inl, inr, subst, arith, append_assoc}
use Rattle.std.specs.Prelude.{Result, Ok, Err}
use Rattle.turn_object.specs.Callers.{made_by}
use Rattle.mount_model.specs.Calls.{AreCallsOf}
use Rattle.mount_model.proofs.Stories.Facts.{entries_both}
use Rattle.mount_model.specs.declared.stuck.Stuck.{Stuck}
use Rattle.mount_model.specs.declared.stuck.Stuck.TheVariants as stuck
use Rattle.mount_model.specs.Running.{unbroken, asking, Runs}
use Rattle.mount_model.proofs.Flows.Facts.{runs_in_two}
use Rattle.mount_model.specs.declared.call.Call.TheVariants as call
use Rattle.mount_model.specs.declared.reply.Reply.{Reply}
use Rattle.mount_model.specs.declared.reply.Reply.TheVariants as reply
use Rattle.mount_model.specs.declared.row.Row.{Row}
use Rattle.mount_model.specs.State.{State}
use Rattle.mount_model.specs.History.{Event}
use Rattle.mount_sound.specs.Owed.{IsLawful}
use Rattle.writer_flow.specs.declared.handle.WriterHandle.{WriterHandle}
use Rattle.writer_flow.specs.declared.handle.WriterOut.{WriterOut}
use Rattle.writer_flow.specs.Ending.{gone_with, stays_with, trouble}
use Rattle.writer_flow.specs.Handle.{closing_of}
use Rattle.writer_flow.specs.Syncing.{sync_program}
use Rattle.writer_flow.specs.Closing.{after_sync, close_from, close_program, exits, if_kept, if_left, if_put, puts_meta}
use Rattle.writer_laws.specs.Counting.{entry_count, writes_told, StaysIn, StaysInAt}
use Rattle.writer_laws.specs.Knowing.{Knows}
use Rattle.mount_sound.proofs.Facts.{lawful_first}
use Rattle.writer_laws.proofs.Machines.{sync_ends}
use Rattle.writer_laws.proofs.Telling.{Spares, SyncedBy, err_not_ok, ok_not_err, spares_more, spares_none, sync_list, synced_by, told_stays, told_writes}

-- None of these calls is a write of the writer. Where the close told a number, the writer is no longer open; where it told a trouble, none takes it out,
-- and it is open unless that was a fault.
pub record CloseTold (w : ℕ) (made : List Event) (out : WriterOut) : Type 0 where
  pub none : writes_told w made ≡ 0
  pub stays : (why : Stuck) → out.result ≡ Err why → StaysIn w made
  pub gone : (n : ℕ) → out.result ≡ Ok n → out.handle ≡ None
  pub leaves : (why : Stuck) → out.result ≡ Err why → ((left : WriterHandle) × (out.handle ≡ Some left)) ⊎ ((why ≡ stuck.Fault) × (out.handle ≡ None))

result_of : (a b : WriterOut) → a ≡ b → a.result ≡ b.result
result_of a b is = ap (λ (o : WriterOut). o.result) is

handle_of : (a b : WriterOut) → a ≡ b → b.handle ≡ a.handle
handle_of a b is = sym (ap (λ (o : WriterOut). o.handle) is)

-- it failed, and the writer is open
told_failed : (w : ℕ) (made : List Event) (left : WriterHandle) (why : Stuck) (out : WriterOut) → Spares w made → stays_with left (Err why) ≡ out → CloseTold w made out
told_failed w made left why out spares is = record {
  none = spares.none;
  stays = λ other e. spares.stays;
  gone = λ n e. absurd (err_not_ok n why out.result (result_of (stays_with left (Err why)) out is) e);
  leaves = λ other e. inl (left, handle_of (stays_with left (Err why)) out is);
}

-- ---- the calls

same_why : (a b : Stuck) (result : Result ℕ Stuck) → Err a ≡ result → result ≡ Err b → b ≡ a
same_why a b result e f = cc

exit_spares : (handle : WriterHandle) (event : Event) (rep : Reply) (later : List Event) → event.ask ≡ unbroken (call.Exit handle.writer) → event.reply ≡ rep → StaysInAt handle.writer (call.Exit handle.writer) rep → later ≡ [] → Spares handle.writer (event ∷ later)
exit_spares handle event rep later asks is stays none = spares_more handle.writer (call.Exit handle.writer) event later asks (subst (StaysInAt handle.writer (call.Exit handle.writer)) (sym is) stays) refl (spares_none handle.writer later none)

exit_replied : (handle : WriterHandle) (event : Event) (rep : Reply) (later : List Event) (out : WriterOut) → event.ask ≡ unbroken (call.Exit handle.writer) → event.reply ≡ rep → AreCallsOf (asking (if_left handle rep)) later out → CloseTold handle.writer (event ∷ later) out
exit_replied handle event reply.Done later out asks is r = record {
  none = (let by = told_writes handle.writer (call.Exit handle.writer) event 0 asks refl in let none = ap (writes_told handle.writer) r.0 in omega (arith, by, none));
  stays = λ why e. absurd (ok_not_err handle.landed why out.result (result_of (gone_with (Ok handle.landed)) out r.1) e);
  gone = λ n e. handle_of (gone_with (Ok handle.landed)) out r.1;
  leaves = λ why e. absurd (ok_not_err handle.landed why out.result (result_of (gone_with (Ok handle.landed)) out r.1) e);
}
exit_replied handle event reply.Fault later out asks is r =
    let s = exit_spares handle event reply.Fault later asks is tt r.0 in
    record {
      none = s.none;
      stays = λ why e. s.stays;
      gone = λ n e. handle_of (gone_with (Err stuck.Fault)) out r.1;
      leaves = λ why e. inr (same_why stuck.Fault why out.result (result_of (gone_with (Err stuck.Fault)) out r.1) e, handle_of (gone_with (Err stuck.Fault)) out r.1);
    }
exit_replied handle event rep later out asks is r = told_failed handle.writer (event ∷ later) handle (trouble rep) out (exit_spares handle event rep later asks is tt r.0) r.1

exits_list : (handle : WriterHandle) (made : List Event) (out : WriterOut) → AreCallsOf (asking (exits handle)) made out → CloseTold handle.writer made out
exits_list handle [] out r = absurd r
exits_list handle (event ∷ later) out r = exit_replied handle event event.reply later out r.0 refl r.1

put_replied : (handle : WriterHandle) (rep : Reply) (later : List Event) (out : WriterOut) → AreCallsOf (asking (if_put handle rep)) later out → CloseTold handle.writer later out
put_replied handle reply.Done later out r = exits_list handle later out r
put_replied handle rep later out r = told_failed handle.writer later handle (trouble rep) out (spares_none handle.writer later r.0) r.1

puts_list : (handle : WriterHandle) (made : List Event) (out : WriterOut) → AreCallsOf (asking (puts_meta handle)) made out → CloseTold handle.writer made out
puts_list handle [] out r = absurd r
puts_list handle (event ∷ later) out r =
    let t = put_replied (closing_of handle) event.reply later out r.1 in
    let by = told_writes handle.writer (call.PutMeta handle.writer) event 0 r.0 refl in
    record {
      none = omega (arith, by, t.none);
      stays = λ why e. (told_stays handle.writer (call.PutMeta handle.writer) event r.0 tt, t.stays why e);
      gone = t.gone;
      leaves = t.leaves;
    }

kept_list : (handle : WriterHandle) (result : Result ℕ Stuck) (made : List Event) (out : WriterOut) → AreCallsOf (asking (if_kept (Some handle) result)) made out → CloseTold handle.writer made out
kept_list handle (Ok n) made out r = puts_list handle made out r
kept_list handle (Err why) made out r = told_failed handle.writer made handle why out (spares_none handle.writer made r.0) r.1

both_stay : (w : ℕ) (first rest : List Event) → StaysIn w first → StaysIn w rest → StaysIn w (first ++ rest)
both_stay w [] rest one other = other
both_stay w (event ∷ first) rest one other = (one.0, both_stay w first rest one.1 other)

pub writes_both : (w : ℕ) (first rest : List Event) → writes_told w (first ++ rest) ≡ writes_told w first + writes_told w rest
writes_both w [] rest = omega arith
writes_both w (event ∷ first) rest = omega (arith, writes_both w first rest)

-- ---- a close

synced_first : (me w n : ℕ) (first rest events : List Event) → events ≡ first ++ rest → SyncedBy me w n first → SyncedBy me w n events
synced_first me w n first rest events all y = record {
  first = y.first;
  event = y.event;
  rest = y.rest ++ rest;
  all = all ∙ ap (λ z. z ++ rest) y.all ∙ append_assoc y.first (y.event ∷ y.rest) rest;
  own = y.own;
  asks = y.asks;
  told = y.told;
  stays = y.stays;
}

some_same : (a b : WriterHandle) (o : Option WriterHandle) → o ≡ Some a → o ≡ Some b → a ≡ b
some_same a b o e f = cc

not_both : (a b : Bool) → a ≡ b → b ≡ false → a ≡ true → ⊥
not_both a b e f g = cc

-- the writer was synced, and its entries are so many; or a trouble is told, and its metadata dropping was not asked for
abbrev pub HasSynced : ℕ → ℕ → ℕ → List Event → WriterOut → Type 0
HasSynced me w count events out = SyncedBy me w count events ⊎ ((why : Stuck) × (out.result ≡ Err why) × ((left : WriterHandle) → out.handle ≡ Some left → left.closing ≡ true → ⊥))

-- what a close told, where its writer's handle tells of the buffer
pub record ClosedBy (me : ℕ) (handle : WriterHandle) (count : ℕ) (events : List Event) (out : WriterOut) : Type 0 where
  pub told : CloseTold handle.writer (made_by me events) out
  pub synced : handle.closing ≡ false → HasSynced me handle.writer count events out

if_ended : (me w count : ℕ) (first events : List Event) (value : Result ℕ Stuck) (left : WriterHandle) (rest : List Event) (out : WriterOut) → events ≡ first ++ rest → left.closing ≡ false → ((n : ℕ) → value ≡ Ok n → (n ≡ count) × SyncedBy me w n first) → Runs me (if_kept (Some left) value) rest out → HasSynced me w count events out
if_ended me w count first events (Ok n) left rest out all fresh number r = (let f = number n refl in inl (subst (λ k. SyncedBy me w k events) f.0 (synced_first me w n first rest events all f.1)))
if_ended me w count first events (Err why) left rest out all fresh number r = inr (
  why,
  sym (ap (λ (o : WriterOut). o.result) r.1),
  λ last is closing.
      let same : left ≡ last = some_same left last out.handle (sym (ap (λ (o : WriterOut). o.handle) r.1)) is in
      not_both last.closing left.closing (sym (ap (λ (h : WriterHandle). h.closing) same)) fresh closing,
)

pub closed_by : (me : ℕ) (handle : WriterHandle) (row : Row) (start : State) (events : List Event) (out : WriterOut) → Knows me handle row start → IsLawful start events → Runs me (close_program handle) events out → ClosedBy me handle (entry_count row) events out
closed_by me handle row start events out k l r =
    elim handle.closing as (λ b. handle.closing ≡ b → Runs me (close_from b handle) events out → ClosedBy me handle (entry_count row) events out) [
      | true ↦ λ is r'. record { told = puts_list handle (made_by me events) out r'; synced = λ fresh. absurd (not_both handle.closing handle.closing refl fresh is) }
      | false ↦ λ is r'.
          let s = runs_in_two me (sync_program handle) after_sync events out r' in
          let legal : IsLawful start (s.first ++ s.rest) = subst (IsLawful start) s.all l in
          let y = sync_ends me handle row start s.first s.value k (lawful_first start s.first s.rest legal) s.runs in
          let sync = sync_list handle (made_by me s.first) s.value s.runs in
          let then_runs : Runs me (if_kept (Some y.handle) s.value.result) s.rest out = subst (λ h. Runs me (if_kept h s.value.result) s.rest out) y.kept s.then_runs in
          let rest : CloseTold handle.writer (made_by me s.rest) out = subst (λ w. CloseTold w (made_by me s.rest) out) y.same (kept_list y.handle s.value.result (made_by me s.rest) out then_runs) in
          let parts : made_by me events ≡ made_by me s.first ++ made_by me s.rest = ap (made_by me) s.all ∙ entries_both me s.first s.rest in
          record {
            told = subst (λ made. CloseTold handle.writer made out) (sym parts) (record {
              none = (let b = writes_both handle.writer (made_by me s.first) (made_by me s.rest) in omega (arith, b, sync.none, rest.none));
              stays = λ why e. both_stay handle.writer (made_by me s.first) (made_by me s.rest) sync.stays (rest.stays why e);
              gone = rest.gone;
              leaves = rest.leaves;
            });
            synced = λ fresh. if_ended me handle.writer (entry_count row) s.first events s.value.result y.handle s.rest out s.all (y.closing_is ∙ fresh) (λ n e. ((y.number n e).0, synced_by me handle n s.first s.value e s.runs)) then_runs;
          }
    ] refl r
