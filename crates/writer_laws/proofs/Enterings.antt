-- Where the writer that an opening leaves stands.
use Rattle.std.proofs.Common.{◌≡◌, ℕ, List, [], ◌∷◌, ◌++◌, refl, sym, ap, ◌∙◌, subst, append_assoc}
use Rattle.std.specs.Prelude.{Result, Ok, Err}
use Rattle.turn_object.specs.Callers.{made_by}
use Rattle.turn_object.proofs.Facts.{state_append}
use Rattle.mount_model.specs.Program.{done, ask}
use Rattle.mount_model.specs.Calls.{AreCallsOf}
use Rattle.mount_model.specs.declared.stuck.Stuck.{Stuck}
use Rattle.mount_model.specs.Running.{unbroken, asking, Runs}
use Rattle.mount_model.specs.declared.call.Ask.{Ask}
use Rattle.mount_model.specs.declared.call.Call.{Call}
use Rattle.mount_model.specs.declared.call.Call.TheVariants as call
use Rattle.mount_model.specs.declared.reply.Reply.{Reply}
use Rattle.mount_model.specs.declared.reply.Reply.TheVariants as reply
use Rattle.mount_model.specs.declared.row.Row.{Row}
use Rattle.mount_model.specs.Table.{row_of}
use Rattle.mount_model.specs.State.{State}
use Rattle.mount_model.specs.History.{Event, state_after}
use Rattle.mount_model.specs.Regular.{IsRegular}
use Rattle.mount_model.specs.Step.{Answers}
use Rattle.mount_model.proofs.Facts.{step_regular}
use Rattle.mount_sound.specs.Owed.{IsLawful}
use Rattle.writer_flow.specs.declared.handle.WriterHandle.{WriterHandle}
use Rattle.writer_flow.specs.Ending.{trouble}
use Rattle.writer_flow.specs.Handle.{opened_of}
use Rattle.writer_flow.specs.Opening.{Opening, finds_floor, if_done, if_entered, if_floored, if_made, leaves, makes_hostdir, makes_index, makes_log, open_program}
use Rattle.writer_laws.specs.Counting.{StaysIn, StaysInAt}
use Rattle.writer_laws.specs.Knowing.{HasRow}
use Rattle.writer_laws.proofs.Rows.{some_eq}
use Rattle.mount_sound.proofs.Facts.{lawful_first, lawful_rest}
use Rattle.writer_laws.proofs.Opens.{enter_own}
use Rattle.writer_laws.proofs.Stops.{whole_answers}
use Rattle.writer_laws.proofs.Telling.{call_of, calls, goes, told_stays}

-- ---- the calls behind Enter

err_not_ok : (why : Stuck) (handle : WriterHandle) (a : Result WriterHandle Stuck) → Err why ≡ a → a ≡ Ok handle → ⊥
err_not_ok why handle a e f = cc

same_writer : (w most : ℕ) (handle : WriterHandle) (a : Result WriterHandle Stuck) → Ok (opened_of w most) ≡ a → a ≡ Ok handle → handle.writer ≡ w
same_writer w most handle a e f = let same : opened_of w most ≡ handle = ok_same (opened_of w most) handle a e f in sym (ap (λ (h : WriterHandle). h.writer) same)
  where
    ok_same : (x y : WriterHandle) (b : Result WriterHandle Stuck) → Ok x ≡ b → b ≡ Ok y → x ≡ y
    ok_same x y b p q = cc

-- where they end with a handle, it is this writer's, and none took it out
abbrev StaysOpen : ℕ → Opening → Type 0
StaysOpen w p = (made : List Event) (out : Result WriterHandle Stuck) (handle : WriterHandle) → out ≡ Ok handle → AreCallsOf (asking p) made out → StaysIn w made × (handle.writer ≡ w)

left_not : (w : ℕ) (why : Stuck) → StaysOpen w (leaves w why)
left_not w why [] out handle e r = absurd r
left_not w why (event ∷ made) out handle e r = absurd (err_not_ok why handle out r.1.1 e)

opened_so : (w most : ℕ) → StaysOpen w (done (Ok (opened_of w most)))
opened_so w most made out handle e r = (subst (StaysIn w) (sym r.0) tt, same_writer w most handle out r.1 e)

one_call : (w : ℕ) (q : Call) (k : Reply → Opening) → ((rep : Reply) → StaysInAt w q rep) → ((rep : Reply) → StaysOpen w (k rep)) → StaysOpen w (ask q k)
one_call w q k stays next [] out handle e r = absurd r
one_call w q k stays next (event ∷ made) out handle e r = (let n = next event.reply made out handle e r.1 in ((told_stays w q event r.0 (stays event.reply), n.0), n.1))

if_done_stays : (w : ℕ) (p : Opening) → StaysOpen w p → (rep : Reply) → StaysOpen w (if_done w p rep)
if_done_stays w p next reply.Done = next
if_done_stays w p next rep = left_not w (trouble rep)

log_stays : (w most : ℕ) → StaysOpen w (makes_log w most)
log_stays w most = one_call w (call.MakeLog w) (if_done w (done (Ok (opened_of w most)))) (λ rep. tt) (if_done_stays w (done (Ok (opened_of w most))) (opened_so w most))

index_stays : (w most : ℕ) → StaysOpen w (makes_index w most)
index_stays w most = one_call w (call.MakeIndex w) (if_done w (makes_log w most)) (λ rep. tt) (if_done_stays w (makes_log w most) (log_stays w most))

hostdir_stays : (w most : ℕ) → StaysOpen w (makes_hostdir w most)
hostdir_stays w most = one_call w (call.MakeHostdir w) (if_done w (makes_index w most)) (λ rep. tt) (if_done_stays w (makes_index w most) (index_stays w most))

if_floored_stays : (w most : ℕ) (rep : Reply) → StaysOpen w (if_floored w most rep)
if_floored_stays w most (reply.Floored floor) = hostdir_stays w most
if_floored_stays w most rep = left_not w (trouble rep)

floor_stays : (w most : ℕ) → StaysOpen w (finds_floor w most)
floor_stays w most = one_call w (call.Floor w) (if_floored w most) (λ rep. tt) (if_floored_stays w most)

-- ---- the opening

-- In these events the caller found or made the container of this name, and entered it as this writer, whose entries go there from then on.
pub record EnteredBy (me : ℕ) (name : List ℕ) (host most w : ℕ) (start : State) (events : List Event) : Type 0 where
  pub first : List Event
  pub making : Event
  pub between : List Event
  pub entering : Event
  pub rest : List Event
  pub room : ℕ
  pub all : events ≡ first ++ (making ∷ between ++ entering ∷ rest)
  pub makes : (making.caller ≡ me) × (making.ask ≡ unbroken (call.MakeContainer name))
  pub made : making.reply ≡ reply.Room room
  pub enters : (entering.caller ≡ me) × (entering.ask ≡ unbroken (call.Enter room host most))
  pub entered : entering.reply ≡ reply.Entered w
  pub placed : (row : Row) → HasRow me w row (state_after start events) → (row.room ≡ room) × (row.host ≡ host)

-- the reply to Enter
entered_reply : (me most : ℕ) (rep : Reply) (events : List Event) (out : Result WriterHandle Stuck) (handle : WriterHandle) → out ≡ Ok handle → Runs me (if_entered most rep) events out → (rep ≡ reply.Entered handle.writer) × StaysIn handle.writer (made_by me events)
entered_reply me most (reply.Entered w) events out handle e r =
    let s = floor_stays w most (made_by me events) out handle e r in
    (ap (λ k. reply.Entered k) (sym s.1), subst (λ k. StaysIn k (made_by me events)) (sym s.1) s.0)
entered_reply me most rep events out handle e r = absurd (err_not_ok (trouble rep) handle out r.1 e)

regular_after : (start : State) (events : List Event) → IsRegular start → IsLawful start events → IsRegular (state_after start events)
regular_after start [] regular l = regular
regular_after start (event ∷ events) regular l = regular_after event.after events (step_regular start event.after event.caller event.ask event.reply l.0.numbers l.1 regular) l.2

-- what it entered as is where it is at the end
entered_place : (me room host most w : ℕ) (old : State) (event : Event) (rest : List Event) (row : Row) → IsRegular old → IsLawful old (event ∷ rest) → event.caller ≡ me → event.ask ≡ unbroken (call.Enter room host most) → event.reply ≡ reply.Entered w → StaysIn w (made_by me rest) → HasRow me w row (state_after event.after rest) → (row.room ≡ room) × (row.host ≡ host)
entered_place me room host most w old event rest row regular l own asks told stays has =
    let a : Answers old me (call.Enter room host most) event.reply event.after = subst (λ c. Answers old me c event.reply event.after) (call_of (call.Enter room host most) event.ask asks)
    (subst (λ n. Answers old n event.ask.call event.reply event.after) own (whole_answers old event.caller event.ask event.reply event.after (ap (λ (x : Ask). x.stop) asks) l.1)) in
    let o = enter_own me room host most w old event.reply event.after regular a told in
    let g = goes me w o.row event.after rest o.has l.2 stays in
    let same : row ≡ g.after = some_eq row g.after (row_of w (state_after event.after rest).table.writers) has.there g.has.there in
    (ap (λ (r : Row). r.room) same ∙ g.placed.0 ∙ o.placed.0, ap (λ (r : Row). r.host) same ∙ g.placed.1 ∙ o.placed.1)

-- the reply to MakeContainer
made_reply : (me host most : ℕ) (rep : Reply) (events : List Event) (out : Result WriterHandle Stuck) (handle : WriterHandle) → out ≡ Ok handle → Runs me (if_made host most rep) events out → (room : ℕ) × (rep ≡ reply.Room room) × Runs me (ask (call.Enter room host most) (if_entered most)) events out
made_reply me host most (reply.Room room) events out handle e r = (room, refl, r)
made_reply me host most rep events out handle e r = absurd (err_not_ok (trouble rep) handle out r.1 e)

in_front : (events first between rest : List Event) (one other : Event) → events ≡ first ++ (one ∷ between ++ other ∷ rest) → events ≡ (first ++ one ∷ between) ++ other ∷ rest
in_front events first between rest one other is = is ∙ sym (append_assoc first (one ∷ between) (other ∷ rest))

two_calls : (events first second between rest : List Event) (one other : Event) → events ≡ first ++ one ∷ second → second ≡ between ++ other ∷ rest → events ≡ first ++ (one ∷ between ++ other ∷ rest)
two_calls events first second between rest one other is then = is ∙ ap (λ z. first ++ one ∷ z) then

lawful_so : (start : State) (events front rest : List Event) (event : Event) → events ≡ front ++ event ∷ rest → IsLawful start events → IsLawful start (front ++ event ∷ rest)
lawful_so start events front rest event is l = subst (IsLawful start) is l

there_too : (me w : ℕ) (row : Row) (start : State) (events front rest : List Event) (event : Event) → events ≡ front ++ event ∷ rest → HasRow me w row (state_after start events) → HasRow me w row (state_after event.after rest)
there_too me w row start events front rest event is has = subst (HasRow me w row) (ap (state_after start) is ∙ state_append start front (event ∷ rest)) has

pub entered_by : (me : ℕ) (name : List ℕ) (host most : ℕ) (start : State) (events : List Event) (out : Result WriterHandle Stuck) (handle : WriterHandle) → IsRegular start → IsLawful start events → Runs me (open_program name host most) events out → out ≡ Ok handle → EnteredBy me name host most handle.writer start events
entered_by me name host most start events out handle regular l r e =
    let c = calls me (call.MakeContainer name) (if_made host most) events out r in
    let (room, said, enters) = made_reply me host most c.event.reply c.rest out handle e c.runs in
    let d = calls me (call.Enter room host most) (if_entered most) c.rest out enters in
    let t = entered_reply me most d.event.reply d.rest out handle e d.runs in
    let front : List Event = c.first ++ c.event ∷ d.first in
    let whole : events ≡ c.first ++ (c.event ∷ d.first ++ d.event ∷ d.rest) = two_calls events c.first c.rest d.first d.rest c.event d.event c.all d.all in
    let split : events ≡ front ++ d.event ∷ d.rest = in_front events c.first d.first d.rest c.event d.event whole in
    let legal : IsLawful start (front ++ d.event ∷ d.rest) = lawful_so start events front d.rest d.event split l in
    record {
      first = c.first;
      making = c.event;
      between = d.first;
      entering = d.event;
      rest = d.rest;
      room = room;
      all = whole;
      makes = (c.own, c.asks);
      made = said;
      enters = (d.own, d.asks);
      entered = t.0;
      placed = λ row has. entered_place me room host most handle.writer (state_after start front) d.event d.rest row (regular_after start front regular (lawful_first start front (d.event ∷ d.rest) legal)) (lawful_rest start front (d.event ∷ d.rest) legal) d.own d.asks t.0 t.1 (there_too me handle.writer row start events front d.rest d.event split has);
    }
