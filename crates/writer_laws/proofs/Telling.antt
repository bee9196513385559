-- What the calls of a writer's machines tell, and what they leave of the writer.
use Rattle.std.proofs.Common.{◌≡◌, ◌≢◌, ℕ, ◌+◌, true, false, List, [], ◌∷◌, ◌++◌, refl, sym, ap, ◌∙◌, inl, inr, subst, arith, nat_eq, append_assoc}
use Rattle.std.specs.Prelude.{if◌then◌else◌, nat_le, Result, Ok, Err}
use Rattle.std.proofs.lemmas.Bool.Decides.{nat_tests}
use Rattle.std.proofs.lemmas.List.Elements.{All-head, All-tail}
use mathlib.Core.Logic.{dite}
use native.Mathlib.Decide.{ℕ_discrete}
use Rattle.turn_object.specs.Callers.{made_by}
use Rattle.mount_model.specs.Program.{Program, ask}
use Rattle.mount_model.specs.Calls.{AreCallsOf}
use Rattle.mount_model.proofs.Stories.Facts.{entries_both, entries_first, entries_not_first}
use Rattle.mount_model.specs.declared.stuck.Stuck.{Stuck}
use Rattle.mount_model.specs.Running.{unbroken, asking, Runs}
use Rattle.mount_model.proofs.Flows.Facts.{runs_next}
use Rattle.mount_model.specs.declared.call.Ask.{Ask}
use Rattle.mount_model.specs.declared.call.Call.{Call}
use Rattle.mount_model.specs.declared.call.Call.TheVariants as call
use Rattle.mount_model.specs.declared.reply.Reply.{Reply}
use Rattle.mount_model.specs.declared.reply.Reply.TheVariants as reply
use Rattle.mount_model.specs.declared.row.Row.{Row}
use Rattle.mount_model.specs.State.{State}
use Rattle.mount_model.specs.History.{Event, state_after}
use Rattle.mount_sound.specs.Owed.{IsLawful}
use Rattle.writer_flow.specs.declared.handle.WriterHandle.{WriterHandle}
use Rattle.writer_flow.specs.declared.handle.WriterOut.{WriterOut}
use Rattle.writer_flow.specs.Ending.{trouble}
use Rattle.writer_flow.specs.Handle.{flushed_of}
use Rattle.writer_flow.specs.Writing.{if_flushed, if_wrote, writes, write_program}
use Rattle.writer_flow.specs.Syncing.{if_synced, syncs_index, flushes_and_syncs, if_log_synced, sync_program}
use Rattle.writer_laws.specs.Counting.{entry_count, wrote_by, writes_told, StaysIn, StaysInAt}
use Rattle.writer_laws.specs.Knowing.{HasRow}
use Rattle.writer_laws.specs.Waiting.{LeavesAlone, LetsBe}
use Rattle.writer_laws.proofs.Steps.{AtOnePlace}
use Rattle.writer_laws.proofs.Stops.{own_kept, spared_kept}

-- ---- events in which the caller doesn't take its writer out

-- the writer stays the caller's, its entries go where they went, and it has as many more as writes of it were answered, all of them its caller's
pub record Goes (me w : ℕ) (row : Row) (events : List Event) (state : State) : Type 0 where
  pub after : Row
  pub has : HasRow me w after state
  pub total : entry_count after ≡ entry_count row + writes_told w events
  pub placed : AtOnePlace after row
  pub own : writes_told w events ≡ writes_told w (made_by me events)

both_places : (a b c : Row) → AtOnePlace a b → AtOnePlace b c → AtOnePlace a c
both_places a b c one other = (one.0 ∙ other.0, one.1 ∙ other.1)

-- no other's write of it is answered
none_of_another : (me w : ℕ) (row : Row) (start : State) (event : Event) → event.caller ≢ me → HasRow me w row start → IsLawful start (event ∷ []) → wrote_by w event.ask.call event.reply ≡ 0
none_of_another me w row start event other h l = (spared_kept me w row start event.caller event.ask event.reply event.after (λ mine. absurd (other mine)) h l.1).1

pub goes : (me w : ℕ) (row : Row) (start : State) (events : List Event) → HasRow me w row start → IsLawful start events → StaysIn w (made_by me events) → Goes me w row events (state_after start events)
goes me w row start [] h l s = record { after = row; has = h; total = omega arith; placed = (refl, refl); own = refl }
goes me w row start (event ∷ events) h l s =
    let stays : event.caller ≡ me → StaysInAt w event.ask.call event.reply = λ mine. (subst (StaysIn w) (entries_first me event events mine) s).0 in
    let rest : StaysIn w (made_by me events) = dite (ℕ_discrete event.caller me) (λ mine. (subst (StaysIn w) (entries_first me event events mine) s).1) (λ other. subst (StaysIn w) (entries_not_first me event events other) s) in
    let k = own_kept me w row start event.caller event.ask event.reply event.after stays h l.1 in
    let g = goes me w k.after event.after events k.has l.2 rest in
    record {
      after = g.after;
      has = g.has;
      total = omega (arith, g.total, k.total);
      placed = both_places g.after k.after row g.placed k.placed;
      own = dite (ℕ_discrete event.caller me)
          (λ mine. ap (λ n. wrote_by w event.ask.call event.reply + n) g.own ∙ ap (writes_told w) (sym (entries_first me event events mine)))
          (λ other. (let none = none_of_another me w row start event other h (l.0, l.1, tt) in let same : writes_told w (made_by me (event ∷ events)) ≡ writes_told w (made_by me events) = ap (writes_told w) (entries_not_first me event events other) in omega (arith, none, same, g.own)));
    }

-- where the caller lets the writer be, no write of it is answered
pub none_told : (me w : ℕ) (row : Row) (start : State) (events : List Event) → HasRow me w row start → IsLawful start events → LetsBe me w events → writes_told w events ≡ 0
none_told me w row start [] h l spares = refl
none_told me w row start (event ∷ events) h l spares =
    let k = spared_kept me w row start event.caller event.ask event.reply event.after (All-head (λ (e : Event). e.caller ≡ me → LeavesAlone w e.ask) event events spares) h l.1 in
    omega (arith, k.1, none_told me w row event.after events k.0 l.2 (All-tail (λ (e : Event). e.caller ≡ me → LeavesAlone w e.ask) event events spares))

-- ---- a program's next call

pub record Calls {R : Type 0} (me : ℕ) (q : Call) (k : Reply → Program Call Reply R) (events : List Event) (out : R) : Type 0 where
  pub first : List Event
  pub event : Event
  pub rest : List Event
  pub all : events ≡ first ++ event ∷ rest
  pub waits : made_by me first ≡ []
  pub own : event.caller ≡ me
  pub asks : event.ask ≡ unbroken q
  pub runs : Runs me (k event.reply) rest out

pub calls : {R : Type 0} (me : ℕ) (q : Call) (k : Reply → Program Call Reply R) (events : List Event) (out : R) → Runs me (ask q k) events out → Calls me q k events out
calls me q k [] out r = absurd r
calls {R} me q k (event ∷ events) out r = elim (runs_next me q k event events out r) as (λ _. Calls me q k (event ∷ events) out) [
  | inl (other, r') ↦
      let c = calls me q k events out r' in
      record { first = event ∷ c.first; event = c.event; rest = c.rest; all = ap (λ z. event ∷ z) c.all; waits = entries_not_first me event c.first other ∙ c.waits; own = c.own; asks = c.asks; runs = c.runs }
  | inr (mine, asked, r') ↦ record { first = []; event = event; rest = events; all = refl; waits = refl; own = mine; asks = asked; runs = r' }
]

-- the caller's calls up to the next one
own_calls : (me : ℕ) (first rest : List Event) (event : Event) → made_by me first ≡ [] → event.caller ≡ me → made_by me (first ++ event ∷ rest) ≡ event ∷ made_by me rest
own_calls me first rest event none own = entries_both me first (event ∷ rest) ∙ ap (λ z. z ++ made_by me (event ∷ rest)) none ∙ entries_first me event rest own

pub call_of : (q : Call) (a : Ask) → a ≡ unbroken q → a.call ≡ q
call_of q a is = ap (λ (x : Ask). x.call) is

-- ---- a write

pub told_stays : (w : ℕ) (q : Call) (event : Event) → event.ask ≡ unbroken q → StaysInAt w q event.reply → StaysInAt w event.ask.call event.reply
told_stays w q event asks stays = subst (λ c. StaysInAt w c event.reply) (sym (call_of q event.ask asks)) stays

pub told_writes : (w : ℕ) (q : Call) (event : Event) (n : ℕ) → event.ask ≡ unbroken q → wrote_by w q event.reply ≡ n → wrote_by w event.ask.call event.reply ≡ n
told_writes w q event n asks is = ap (λ c. wrote_by w c event.reply) (call_of q event.ask asks) ∙ is

own_by : (id n : ℕ) → (if nat_eq id id then n else 0) ≡ n
own_by id n = let t : nat_eq id id ≡ true = grind (arith, nat_tests) in rw t refl

-- the calls of a write leave the writer in the table, and one of them is answered as a write exactly where the machine tells a stamp
pub record WriteTold (w : ℕ) (made : List Event) (result : Result ℕ Stuck) : Type 0 where
  pub stays : StaysIn w made
  pub one : (stamp : ℕ) → result ≡ Ok stamp → writes_told w made ≡ 1
  pub none : (why : Stuck) → result ≡ Err why → writes_told w made ≡ 0

pub ok_not_err : (stamp : ℕ) (why : Stuck) (result : Result ℕ Stuck) → Ok stamp ≡ result → result ≡ Err why → ⊥
ok_not_err stamp why result a b = cc

pub err_not_ok : (stamp : ℕ) (why : Stuck) (result : Result ℕ Stuck) → Err why ≡ result → result ≡ Ok stamp → ⊥
err_not_ok stamp why result a b = cc

same_number : (n m : ℕ) (result : Result ℕ Stuck) → Ok n ≡ result → result ≡ Ok m → n ≡ m
same_number n m result a b = cc

write_failed : (w : ℕ) (why : Stuck) (made : List Event) (result : Result ℕ Stuck) → made ≡ [] → Err why ≡ result → WriteTold w made result
write_failed w why made result none is = record {
  stays = subst (StaysIn w) (sym none) tt;
  one = λ stamp e. absurd (err_not_ok stamp why result is e);
  none = λ other e. ap (writes_told w) none;
}

write_replied : (handle : WriterHandle) (event : Event) (rep : Reply) (later : List Event) (out : WriterOut) (at : ℕ) (block : List ℕ) → event.ask ≡ unbroken (call.Write handle.writer at block) → event.reply ≡ rep → AreCallsOf (asking (if_wrote handle rep)) later out → WriteTold handle.writer (event ∷ later) out.result
write_replied handle event (reply.Wrote stamp) later out at block asks is r =
    let w : ℕ = handle.writer in
    let by : wrote_by w event.ask.call event.reply ≡ 1 = told_writes w (call.Write w at block) event 1 asks (ap (λ rep. wrote_by w (call.Write w at block) rep) is ∙ own_by w 1) in
    let none : writes_told w later ≡ 0 = ap (writes_told w) r.0 in
    record {
      stays = (told_stays w (call.Write w at block) event asks tt, subst (StaysIn w) (sym r.0) tt);
      one = λ n e. omega (arith, by, none);
      none = λ why e. absurd (ok_not_err stamp why out.result (ap (λ (o : WriterOut). o.result) r.1) e);
    }
write_replied handle event rep later out at block asks is r =
    let w : ℕ = handle.writer in
    let by : wrote_by w event.ask.call event.reply ≡ 0 = told_writes w (call.Write w at block) event 0 asks (ap (λ rep. wrote_by w (call.Write w at block) rep) is ∙ own_by w 0) in
    let none : writes_told w later ≡ 0 = ap (writes_told w) r.0 in
    record {
      stays = (told_stays w (call.Write w at block) event asks tt, subst (StaysIn w) (sym r.0) tt);
      one = λ n e. absurd (err_not_ok n (trouble rep) out.result (ap (λ (o : WriterOut). o.result) r.1) e);
      none = λ why e. omega (arith, by, none);
    }

writes_list : (handle : WriterHandle) (at : ℕ) (block : List ℕ) (made : List Event) (out : WriterOut) → AreCallsOf (asking (writes handle at block)) made out → WriteTold handle.writer made out.result
writes_list handle at block [] out r = absurd r
writes_list handle at block (event ∷ later) out r = write_replied handle event event.reply later out at block r.0 refl r.1

flush_replied : (handle : WriterHandle) (event : Event) (rep : Reply) (at : ℕ) (block : List ℕ) (later : List Event) (out : WriterOut) → event.ask ≡ unbroken (call.Flush handle.writer) → AreCallsOf (asking (if_flushed handle (writes (flushed_of handle) at block) rep)) later out → WriteTold handle.writer (event ∷ later) out.result
flush_replied handle event (reply.Flushed n) at block later out asks r =
    let t = writes_list (flushed_of handle) at block later out r in
    let by = told_writes handle.writer (call.Flush handle.writer) event 0 asks refl in
    record {
      stays = (told_stays handle.writer (call.Flush handle.writer) event asks tt, t.stays);
      one = λ stamp e. (let m = t.one stamp e in omega (arith, by, m));
      none = λ why e. (let m = t.none why e in omega (arith, by, m));
    }
flush_replied handle event rep at block later out asks r =
    let by = told_writes handle.writer (call.Flush handle.writer) event 0 asks refl in
    let f = write_failed handle.writer (trouble rep) later out.result r.0 (ap (λ (o : WriterOut). o.result) r.1) in
    record {
      stays = (told_stays handle.writer (call.Flush handle.writer) event asks tt, f.stays);
      one = λ stamp e. absurd (err_not_ok stamp (trouble rep) out.result (ap (λ (o : WriterOut). o.result) r.1) e);
      none = λ why e. (let m = f.none why e in omega (arith, by, m));
    }

flush_list : (handle : WriterHandle) (at : ℕ) (block : List ℕ) (made : List Event) (out : WriterOut) → AreCallsOf (asking (ask (call.Flush handle.writer) (if_flushed handle (writes (flushed_of handle) at block)))) made out → WriteTold handle.writer made out.result
flush_list handle at block [] out r = absurd r
flush_list handle at block (event ∷ later) out r = flush_replied handle event event.reply at block later out r.0 r.1

pub write_list : (handle : WriterHandle) (at : ℕ) (block : List ℕ) (made : List Event) (out : WriterOut) → AreCallsOf (asking (write_program handle at block)) made out → WriteTold handle.writer made out.result
write_list handle at block made out r =
    elim (nat_le handle.cap handle.pending) as (λ b. AreCallsOf (asking (if b then ask (call.Flush handle.writer) (if_flushed handle (writes (flushed_of handle) at block)) else writes handle at block)) made out → WriteTold handle.writer made out.result) [
      | true ↦ λ r'. flush_list handle at block made out r'
      | false ↦ λ r'. writes_list handle at block made out r'
    ] r

-- one of these events is the caller's write, which was answered so
pub record WroteBy (me w at : ℕ) (block : List ℕ) (stamp : ℕ) (events : List Event) : Type 0 where
  pub first : List Event
  pub event : Event
  pub rest : List Event
  pub all : events ≡ first ++ event ∷ rest
  pub own : event.caller ≡ me
  pub asks : event.ask ≡ unbroken (call.Write w at block)
  pub told : event.reply ≡ reply.Wrote stamp

wrote_later : (me w at : ℕ) (block : List ℕ) (stamp : ℕ) (first rest : List Event) (event : Event) → WroteBy me w at block stamp rest → WroteBy me w at block stamp (first ++ event ∷ rest)
wrote_later me w at block stamp first rest event y = record {
  first = first ++ event ∷ y.first;
  event = y.event;
  rest = y.rest;
  all = ap (λ z. first ++ event ∷ z) y.all ∙ sym (append_assoc first (event ∷ y.first) (y.event ∷ y.rest));
  own = y.own;
  asks = y.asks;
  told = y.told;
}

stamp_told : (me : ℕ) (handle : WriterHandle) (rep : Reply) (stamp : ℕ) (events : List Event) (out : WriterOut) → out.result ≡ Ok stamp → Runs me (if_wrote handle rep) events out → rep ≡ reply.Wrote stamp
stamp_told me handle (reply.Wrote n) stamp events out e r = ap (λ k. reply.Wrote k) (same_number n stamp out.result (ap (λ (o : WriterOut). o.result) r.1) e)
stamp_told me handle rep stamp events out e r = absurd (err_not_ok stamp (trouble rep) out.result (ap (λ (o : WriterOut). o.result) r.1) e)

writes_by : (me : ℕ) (handle : WriterHandle) (at : ℕ) (block : List ℕ) (stamp : ℕ) (events : List Event) (out : WriterOut) → out.result ≡ Ok stamp → Runs me (writes handle at block) events out → WroteBy me handle.writer at block stamp events
writes_by me handle at block stamp events out e r =
    let c = calls me (call.Write handle.writer at block) (if_wrote handle) events out r in
    record { first = c.first; event = c.event; rest = c.rest; all = c.all; own = c.own; asks = c.asks; told = stamp_told me handle c.event.reply stamp c.rest out e c.runs }

flushed_then : (me : ℕ) (handle : WriterHandle) (rep : Reply) (at : ℕ) (block : List ℕ) (stamp : ℕ) (events : List Event) (out : WriterOut) → out.result ≡ Ok stamp → Runs me (if_flushed handle (writes (flushed_of handle) at block) rep) events out → WroteBy me handle.writer at block stamp events
flushed_then me handle (reply.Flushed n) at block stamp events out e r = writes_by me (flushed_of handle) at block stamp events out e r
flushed_then me handle rep at block stamp events out e r = absurd (err_not_ok stamp (trouble rep) out.result (ap (λ (o : WriterOut). o.result) r.1) e)

pub wrote_by_it : (me : ℕ) (handle : WriterHandle) (at : ℕ) (block : List ℕ) (stamp : ℕ) (events : List Event) (out : WriterOut) → out.result ≡ Ok stamp → Runs me (write_program handle at block) events out → WroteBy me handle.writer at block stamp events
wrote_by_it me handle at block stamp events out e r =
    elim (nat_le handle.cap handle.pending) as (λ b. Runs me (if b then ask (call.Flush handle.writer) (if_flushed handle (writes (flushed_of handle) at block)) else writes handle at block) events out → WroteBy me handle.writer at block stamp events) [
      | true ↦ λ r'.
          let c = calls me (call.Flush handle.writer) (if_flushed handle (writes (flushed_of handle) at block)) events out r' in
          subst (WroteBy me handle.writer at block stamp) (sym c.all) (wrote_later me handle.writer at block stamp c.first c.rest c.event (flushed_then me handle c.event.reply at block stamp c.rest out e c.runs))
      | false ↦ λ r'. writes_by me handle at block stamp events out e r'
    ] r

-- ---- a sync

-- no call of these takes the writer out, or is a write of it
pub record Spares (w : ℕ) (made : List Event) : Type 0 where
  pub stays : StaysIn w made
  pub none : writes_told w made ≡ 0

pub spares_none : (w : ℕ) (made : List Event) → made ≡ [] → Spares w made
spares_none w made none = record { stays = subst (StaysIn w) (sym none) tt; none = ap (writes_told w) none }

pub spares_more : (w : ℕ) (q : Call) (event : Event) (later : List Event) → event.ask ≡ unbroken q → StaysInAt w q event.reply → wrote_by w q event.reply ≡ 0 → Spares w later → Spares w (event ∷ later)
spares_more w q event later asks stays writes more =
    let by = told_writes w q event 0 asks writes in
    record { stays = (told_stays w q event asks stays, more.stays); none = omega (arith, by, more.none) }

index_replied : (handle : WriterHandle) (rep : Reply) (later : List Event) (out : WriterOut) → AreCallsOf (asking (if_synced handle rep)) later out → later ≡ []
index_replied handle (reply.Synced n) later out r = r.0
index_replied handle rep later out r = r.0

index_list : (handle : WriterHandle) (made : List Event) (out : WriterOut) → AreCallsOf (asking (syncs_index handle)) made out → Spares handle.writer made
index_list handle [] out r = absurd r
index_list handle (event ∷ later) out r = spares_more handle.writer (call.SyncIndex handle.writer) event later r.0 tt refl (spares_none handle.writer later (index_replied handle event.reply later out r.1))

pending_replied : (handle : WriterHandle) (rep : Reply) (later : List Event) (out : WriterOut) → AreCallsOf (asking (if_flushed handle (syncs_index (flushed_of handle)) rep)) later out → Spares handle.writer later
pending_replied handle (reply.Flushed n) later out r = index_list (flushed_of handle) later out r
pending_replied handle rep later out r = spares_none handle.writer later r.0

pending_list : (handle : WriterHandle) (made : List Event) (out : WriterOut) → AreCallsOf (asking (ask (call.Flush handle.writer) (if_flushed handle (syncs_index (flushed_of handle))))) made out → Spares handle.writer made
pending_list handle [] out r = absurd r
pending_list handle (event ∷ later) out r = spares_more handle.writer (call.Flush handle.writer) event later r.0 tt refl (pending_replied handle event.reply later out r.1)

flushes_list : (handle : WriterHandle) (made : List Event) (out : WriterOut) → AreCallsOf (asking (flushes_and_syncs handle)) made out → Spares handle.writer made
flushes_list handle made out r =
    elim (nat_eq handle.pending 0) as (λ b. AreCallsOf (asking (if b then syncs_index handle else ask (call.Flush handle.writer) (if_flushed handle (syncs_index (flushed_of handle))))) made out → Spares handle.writer made) [
      | true ↦ λ r'. index_list handle made out r'
      | false ↦ λ r'. pending_list handle made out r'
    ] r

log_replied : (handle : WriterHandle) (rep : Reply) (later : List Event) (out : WriterOut) → AreCallsOf (asking (if_log_synced handle rep)) later out → Spares handle.writer later
log_replied handle reply.Done later out r = flushes_list handle later out r
log_replied handle rep later out r = spares_none handle.writer later r.0

pub sync_list : (handle : WriterHandle) (made : List Event) (out : WriterOut) → AreCallsOf (asking (sync_program handle)) made out → Spares handle.writer made
sync_list handle [] out r = absurd r
sync_list handle (event ∷ later) out r = spares_more handle.writer (call.SyncLog handle.writer) event later r.0 tt refl (log_replied handle event.reply later out r.1)

-- one of these events is the caller's sync of its index dropping, which told so many entries; none of its calls up to then takes the writer out
pub record SyncedBy (me w n : ℕ) (events : List Event) : Type 0 where
  pub first : List Event
  pub event : Event
  pub rest : List Event
  pub all : events ≡ first ++ event ∷ rest
  pub own : event.caller ≡ me
  pub asks : event.ask ≡ unbroken (call.SyncIndex w)
  pub told : event.reply ≡ reply.Synced n
  pub stays : StaysIn w (made_by me (first ++ event ∷ []))

synced_later : (me w n : ℕ) (q : Call) (first rest : List Event) (event : Event) → made_by me first ≡ [] → event.caller ≡ me → event.ask ≡ unbroken q → StaysInAt w q event.reply → SyncedBy me w n rest → SyncedBy me w n (first ++ event ∷ rest)
synced_later me w n q first rest event none own asks stays y = record {
  first = first ++ event ∷ y.first;
  event = y.event;
  rest = y.rest;
  all = ap (λ z. first ++ event ∷ z) y.all ∙ sym (append_assoc first (event ∷ y.first) (y.event ∷ y.rest));
  own = y.own;
  asks = y.asks;
  told = y.told;
  stays = subst (StaysIn w) (sym (ap (made_by me) (append_assoc first (event ∷ y.first) (y.event ∷ [])) ∙ own_calls me first (y.first ++ y.event ∷ []) event none own)) (told_stays w q event asks stays, y.stays);
}

number_told : (me : ℕ) (handle : WriterHandle) (rep : Reply) (n : ℕ) (events : List Event) (out : WriterOut) → out.result ≡ Ok n → Runs me (if_synced handle rep) events out → rep ≡ reply.Synced n
number_told me handle (reply.Synced k) n events out e r = ap (λ x. reply.Synced x) (same_number k n out.result (ap (λ (o : WriterOut). o.result) r.1) e)
number_told me handle rep n events out e r = absurd (err_not_ok n (trouble rep) out.result (ap (λ (o : WriterOut). o.result) r.1) e)

index_by : (me : ℕ) (handle : WriterHandle) (n : ℕ) (events : List Event) (out : WriterOut) → out.result ≡ Ok n → Runs me (syncs_index handle) events out → SyncedBy me handle.writer n events
index_by me handle n events out e r =
    let c = calls me (call.SyncIndex handle.writer) (if_synced handle) events out r in
    record {
      first = c.first;
      event = c.event;
      rest = c.rest;
      all = c.all;
      own = c.own;
      asks = c.asks;
      told = number_told me handle c.event.reply n c.rest out e c.runs;
      stays = subst (StaysIn handle.writer) (sym (own_calls me c.first [] c.event c.waits c.own)) (told_stays handle.writer (call.SyncIndex handle.writer) c.event c.asks tt, tt);
    }

pending_then : (me : ℕ) (handle : WriterHandle) (rep : Reply) (n : ℕ) (events : List Event) (out : WriterOut) → out.result ≡ Ok n → Runs me (if_flushed handle (syncs_index (flushed_of handle)) rep) events out → SyncedBy me handle.writer n events
pending_then me handle (reply.Flushed k) n events out e r = index_by me (flushed_of handle) n events out e r
pending_then me handle rep n events out e r = absurd (err_not_ok n (trouble rep) out.result (ap (λ (o : WriterOut). o.result) r.1) e)

flushes_by : (me : ℕ) (handle : WriterHandle) (n : ℕ) (events : List Event) (out : WriterOut) → out.result ≡ Ok n → Runs me (flushes_and_syncs handle) events out → SyncedBy me handle.writer n events
flushes_by me handle n events out e r =
    elim (nat_eq handle.pending 0) as (λ b. Runs me (if b then syncs_index handle else ask (call.Flush handle.writer) (if_flushed handle (syncs_index (flushed_of handle)))) events out → SyncedBy me handle.writer n events) [
      | true ↦ λ r'. index_by me handle n events out e r'
      | false ↦ λ r'.
          let c = calls me (call.Flush handle.writer) (if_flushed handle (syncs_index (flushed_of handle))) events out r' in
          subst (SyncedBy me handle.writer n) (sym c.all) (synced_later me handle.writer n (call.Flush handle.writer) c.first c.rest c.event c.waits c.own c.asks tt (pending_then me handle c.event.reply n c.rest out e c.runs))
    ] r

log_then : (me : ℕ) (handle : WriterHandle) (rep : Reply) (n : ℕ) (events : List Event) (out : WriterOut) → out.result ≡ Ok n → Runs me (if_log_synced handle rep) events out → SyncedBy me handle.writer n events
log_then me handle reply.Done n events out e r = flushes_by me handle n events out e r
log_then me handle rep n events out e r = absurd (err_not_ok n (trouble rep) out.result (ap (λ (o : WriterOut). o.result) r.1) e)

pub synced_by : (me : ℕ) (handle : WriterHandle) (n : ℕ) (events : List Event) (out : WriterOut) → out.result ≡ Ok n → Runs me (sync_program handle) events out → SyncedBy me handle.writer n events
synced_by me handle n events out e r =
    let c = calls me (call.SyncLog handle.writer) (if_log_synced handle) events out r in
    subst (SyncedBy me handle.writer n) (sym c.all) (synced_later me handle.writer n (call.SyncLog handle.writer) c.first c.rest c.event c.waits c.own c.asks tt (log_then me handle c.event.reply n c.rest out e c.runs))
