-- What holds of the state where a caller's program is at its end, in lawful histories from sound states.
use Rattle.std.proofs.Common.{◌≡◌, ℕ, List, [], ◌∷◌, ◌++◌, refl, ap, sym, ◌∙◌, inl, inr, subst, append_assoc}
use Rattle.std.specs.Prelude.{Result, Ok, Err}
use Rattle.std.specs.List.{AllByRecursion}
use Rattle.turn_object.proofs.Facts.{state_append}
use Rattle.mount_model.specs.declared.call.Ask.{Ask}
use Rattle.mount_model.specs.declared.call.Call.{Call}
use Rattle.mount_model.specs.declared.call.Call.TheVariants.{Find, Look}
use Rattle.mount_model.specs.declared.reply.Reply.{Reply}
use Rattle.mount_model.specs.History.{Event, state_after}
use Rattle.mount_model.specs.State.{State}
use Rattle.mount_model.specs.Step.{IsStep}
use Rattle.mount_sound.specs.Issued.{issued, issued_after}
use Rattle.mount_sound.specs.Ledger.{Ledger}
use Rattle.mount_sound.specs.Owed.{IsLawful, May}
use Rattle.mount_sound.specs.Sound.{IsSoundFor}
use Rattle.mount_sound.proofs.Facts.{history_keeps, later, lawful_first, lawful_rest}
use Rattle.mount_model.specs.Running.{Runs, unbroken}
use Rattle.mount_model.proofs.Flows.Facts.{runs_done, runs_in_two, runs_next}
use Rattle.mount_model.specs.Program.{Program, ask, done, followed_by}
use Rattle.recovery_laws.proofs.Facts.{Stays}
use Rattle.index_reader.proofs.Facts.{IsLook, OnlyLooks as AreLooks}
use Rattle.migrate_laws.specs.Moments.{Calls, HasLooked, IsLooking, OnlyLooks}
use Rattle.migrate_laws.proofs.Starting.{LastsBeside}

abbrev pub Ends : {R : Type 0} → ℕ → (R → State → Type 0) → Program Call Reply R → State → Type 0
Ends {R} caller good program start = (l : Ledger) (events : List Event) (result : R) → IsLawful start events → IsSoundFor l start → Runs caller program events result → good result (state_after start events)

module _ {R : Type 0} (caller : ℕ) (good : R → State → Type 0) where
  -- it is at its end, and others may call yet
  pub ends_done : (r : R) (fact : State → Type 0) → Stays fact → ((l : Ledger) (state : State) → IsSoundFor l state → fact state → good r state) → (start : State) → fact start → Ends caller good (done r) start
  ends_done r fact stays so start f l [] result lawful s runs = subst (λ x. good x start) runs.1 (so l start s f)
  ends_done r fact stays so start f l (e ∷ events) result lawful s runs =
      ends_done r fact stays so e.after (stays l start e.after e.caller e.ask e.reply lawful.0 lawful.1 s f) (issued_after l start e.ask.call e.reply) events result lawful.2
      (later l start e.after e.caller e.ask e.reply lawful.0 lawful.1 s) (runs_done caller r e events result runs).1

  -- its next call is made where this holds, whatever others call before it
  pub ends_ask : (fact : State → Type 0) → LastsBeside caller fact → (call : Call) (k : Reply → Program Call Reply R)
      → ((l : Ledger) (state : State) (reply : Reply) (after : State) → May state caller (unbroken call) → IsStep state caller (unbroken call) reply after → IsSoundFor l state → fact state → Ends caller good (k reply) after)
      → (start : State) → fact start → Ends caller good (ask call k) start
  ends_ask fact lasts call k leads start f l [] result lawful s runs = absurd runs
  ends_ask fact lasts call k leads start f l (e ∷ events) result lawful s runs =
      let s' = later l start e.after e.caller e.ask e.reply lawful.0 lawful.1 s in
      elim (runs_next caller call k e events result runs) as (λ _. good result (state_after e.after events)) [
        | inl (other, on) ↦ ends_ask fact lasts call k leads e.after (lasts l start e.after e.caller e.ask e.reply other lawful.0 lawful.1 s f) (issued_after l start e.ask.call e.reply) events result lawful.2 s' on
        | inr (own, asked, on) ↦
            let may : May start caller (unbroken call) = subst (λ a. May start caller a) asked (subst (λ c. May start c e.ask) own lawful.0) in
            let step : IsStep start caller (unbroken call) e.reply e.after = subst (λ a. IsStep start caller a e.reply e.after) asked (subst (λ c. IsStep start c e.ask e.reply e.after) own lawful.1) in
            leads l start e.reply e.after may step s f (issued_after l start e.ask.call e.reply) events result lawful.2 s' on
      ]

  -- one program after another
  pub ends_both : {X : Type 0} (such : X → State → Type 0) (p : Program Call Reply X) (next : X → Program Call Reply R) (start : State) → Ends caller such p start
      → ((x : X) (state : State) → such x state → Ends caller good (next x) state) → Ends caller good (followed_by p next) start
  ends_both such p next start first then_ l events result lawful s runs =
      let two = runs_in_two caller p next events result runs in
      let both : IsLawful start (two.first ++ two.rest) = subst (IsLawful start) two.all lawful in
      let before : IsLawful start two.first = lawful_first start two.first two.rest both in
      let mid : State = state_after start two.first in
      let came = first l two.first two.value before s two.runs in
      let out : good result (state_after mid two.rest) = then_ two.value mid came (issued l start two.first) two.rest result (lawful_rest start two.first two.rest both) (history_keeps l start two.first before s) two.then_runs in
      subst (good result) (sym (ap (state_after start) two.all ∙ state_append start two.first two.rest)) out

-- what stays holds at the end of each lawful history
pub along : (fact : State → Type 0) → Stays fact → (l : Ledger) (start : State) (events : List Event) → IsLawful start events → IsSoundFor l start → fact start → fact (state_after start events)
along fact stays l start [] lawful s f = f
along fact stays l start (e ∷ events) lawful s f =
    along fact stays (issued_after l start e.ask.call e.reply) e.after events lawful.2 (later l start e.after e.caller e.ask e.reply lawful.0 lawful.1 s) (stays l start e.after e.caller e.ask e.reply lawful.0 lawful.1 s f)

-- ---- the next call of a program

-- what others called before it, the call, and how the program goes on with its reply
pub record IsNext {R : Type 0} (caller : ℕ) (call : Call) (k : Reply → Program Call Reply R) (start : State) (events : List Event) (result : R) : Type 0 where
  pub before : List Event
  pub event : Event
  pub rest : List Event
  pub split : events ≡ before ++ event ∷ rest
  pub others : AllByRecursion (λ (x : Event). x.caller ≡ caller → ⊥) before
  pub own : event.caller ≡ caller
  pub asks : event.ask ≡ unbroken call
  pub ledger : Ledger
  pub sound : IsSoundFor ledger (state_after start before)
  pub may : May (state_after start before) caller (unbroken call)
  pub step : IsStep (state_after start before) caller (unbroken call) event.reply event.after
  pub then_ledger : Ledger
  pub then_sound : IsSoundFor then_ledger event.after
  pub lawful : IsLawful event.after rest
  pub runs : Runs caller (k event.reply) rest result

pub next_call : {R : Type 0} (caller : ℕ) (call : Call) (k : Reply → Program Call Reply R) (l : Ledger) (start : State) (events : List Event) (result : R) → IsLawful start events → IsSoundFor l start → Runs caller (ask call k) events result → IsNext caller call k start events result
next_call caller call k l start [] result lawful s runs = absurd runs
next_call caller call k l start (e ∷ events) result lawful s runs =
    let s' = later l start e.after e.caller e.ask e.reply lawful.0 lawful.1 s in
    elim (runs_next caller call k e events result runs) as (λ _. IsNext caller call k start (e ∷ events) result) [
      | inl (other, on) ↦
          let n = next_call caller call k (issued_after l start e.ask.call e.reply) e.after events result lawful.2 s' on in
          record {
            before = e ∷ n.before;
            event = n.event;
            rest = n.rest;
            split = ap (λ es. e ∷ es) n.split;
            others = (other, n.others);
            own = n.own;
            asks = n.asks;
            ledger = n.ledger;
            sound = n.sound;
            may = n.may;
            step = n.step;
            then_ledger = n.then_ledger;
            then_sound = n.then_sound;
            lawful = n.lawful;
            runs = n.runs;
          }
      | inr (own, asked, on) ↦ record {
        before = [];
        event = e;
        rest = events;
        split = refl;
        others = tt;
        own = own;
        asks = asked;
        ledger = l;
        sound = s;
        may = subst (λ a. May start caller a) asked (subst (λ c. May start c e.ask) own lawful.0);
        step = subst (λ a. IsStep start caller a e.reply e.after) asked (subst (λ c. IsStep start c e.ask e.reply e.after) own lawful.1);
        then_ledger = issued_after l start e.ask.call e.reply;
        then_sound = s';
        lawful = lawful.2;
        runs = on;
      }
    ]

-- it was made in the state after those
pub its_moment : {R : Type 0} (caller : ℕ) (call : Call) (k : Reply → Program Call Reply R) (start : State) (events : List Event) (result : R) (n : IsNext caller call k start events result) → Calls caller call start events (state_after start n.before)
its_moment caller call k start events result n = record { before = n.before; event = n.event; after = n.rest; split = n.split; comes = refl; own = n.own; asks = n.asks }

-- those before it were lawful
pub lawful_before : {R : Type 0} (caller : ℕ) (call : Call) (k : Reply → Program Call Reply R) (start : State) (events : List Event) (result : R) (n : IsNext caller call k start events result) → IsLawful start events → IsLawful start n.before
lawful_before caller call k start events result n lawful = lawful_first start n.before (n.event ∷ n.rest) (subst (IsLawful start) n.split lawful)

-- what failed didn't end well
pub never : {R E : Type 0} (caller : ℕ) (why : E) (events : List Event) (r : R) → Runs caller (done (Err why)) events (Ok r) → ⊥
never {R} {E} caller why events r runs = clash why r runs.1
  where
    clash : (e : E) (x : R) → ◌≡◌ {A = Result R E} (Err e) (Ok x) → ⊥
    clash e x c = cc

module _ (start : State) (before : List Event) (e : Event) (rest : List Event) where
  -- the end is the same, seen from later on
  pub same_end : state_after e.after rest ≡ state_after start (before ++ e ∷ rest)
  same_end = sym (state_append start before (e ∷ rest))

  -- so is the moment of a call
  pub calls_later : (caller : ℕ) (call : Call) (now : State) → Calls caller call e.after rest now → Calls caller call start (before ++ e ∷ rest) now
  calls_later caller call now c = record {
    before = before ++ e ∷ c.before;
    event = c.event;
    after = c.after;
    split = ap (λ es. before ++ e ∷ es) c.split ∙ sym (append_assoc before (e ∷ c.before) (c.event ∷ c.after));
    comes = state_append start before (e ∷ c.before) ∙ c.comes;
    own = c.own;
    asks = c.asks;
  }

-- ---- callers that only look

only_append : (caller : ℕ) (first rest : List Event) → OnlyLooks caller first → OnlyLooks caller rest → OnlyLooks caller (first ++ rest)
only_append caller [] rest a b = b
only_append caller (e ∷ first) rest a b = (a.0, only_append caller first rest a.1 b)

none_own : (caller : ℕ) (events : List Event) → AllByRecursion (λ (x : Event). x.caller ≡ caller → ⊥) events → OnlyLooks caller events
none_own caller [] a = tt
none_own caller (e ∷ events) a = ((λ own. absurd (a.0 own)), none_own caller events a.1)

pub looked_later : (caller : ℕ) (start : State) (before : List Event) (e : Event) (rest : List Event) (now : State) → AllByRecursion (λ (x : Event). x.caller ≡ caller → ⊥) before → IsLooking e.ask.call → HasLooked caller e.after rest now → HasLooked caller start (before ++ e ∷ rest) now
looked_later caller start before e rest now others looks h = record {
  before = before ++ e ∷ h.before;
  after = h.after;
  split = ap (λ es. before ++ e ∷ es) h.split ∙ sym (append_assoc before (e ∷ h.before) h.after);
  comes = state_append start before (e ∷ h.before) ∙ h.comes;
  only = only_append caller before (e ∷ h.before) (none_own caller before others) ((λ own. looks), h.only);
}

its_look : (q : Call) → IsLook q → IsLooking q
its_look (Find name) look = tt
its_look (Look room sight) look = tt
its_look q look = absurd look

-- who runs a program of looks only looks
pub looks_only : {R : Type 0} (caller : ℕ) (p : Program Call Reply R) (events : List Event) (result : R) → AreLooks p → Runs caller p events result → OnlyLooks caller events
looks_only caller p [] result looks runs = tt
looks_only caller (done r) (e ∷ events) result looks runs =
    let on = runs_done caller r e events result runs in
    ((λ own. absurd (on.0 own)), looks_only caller (done r) events result looks on.1)
looks_only caller (ask q k) (e ∷ events) result looks runs = elim (runs_next caller q k e events result runs) as (λ _. OnlyLooks caller (e ∷ events)) [
  | inl (other, on) ↦ ((λ own. absurd (other own)), looks_only caller (ask q k) events result looks on)
  | inr (own, asked, on) ↦ ((λ _. subst (λ (a : Ask). IsLooking a.call) (sym asked) (its_look q looks.0)), looks_only caller (k e.reply) events result (looks.1 e.reply) on)
]
