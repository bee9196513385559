-- How a program ends in lawful histories from sound states, call by call.
use Rattle.std.proofs.Common.{◌≡◌, ℕ, List, [], ◌∷◌, ◌++◌, Option, Some, None, inl, inr, subst}
use Rattle.std.specs.Prelude.{Result, Ok, Err}
use Rattle.mount_model.specs.declared.call.Ask.{Ask}
use Rattle.mount_model.specs.declared.call.Call.{Call}
use Rattle.mount_model.specs.declared.reply.Reply.{Reply}
use Rattle.mount_model.specs.History.{Event}
use Rattle.mount_model.specs.State.{State}
use Rattle.mount_model.specs.Step.{IsStep}
use Rattle.mount_sound.specs.Issued.{issued_after}
use Rattle.mount_sound.specs.Ledger.{Ledger}
use Rattle.mount_sound.specs.Owed.{IsLawful, May}
use Rattle.mount_sound.specs.Sound.{IsSoundFor}
use Rattle.mount_sound.proofs.Facts.{later}
use Rattle.mount_undamaged.specs.Damage.{ShowsNoDamage}
use Rattle.mount_undamaged.proofs.Facts.{step_shows}
use Rattle.mount_model.specs.declared.stuck.Stuck.{Stuck}
use Rattle.mount_model.specs.Running.{Runs, unbroken}
use Rattle.mount_model.proofs.Flows.Facts.{runs_in_two, runs_next}
use Rattle.mount_model.specs.FlowReplies.{given, on_ok}
use Rattle.mount_model.specs.Program.{Program, ask, done, followed_by}
use Rattle.trouble_laws.specs.Undamaged.{IsNoDamage, IsUndamaged}

-- what holds of a sound state holds after each step, whoever makes it
abbrev pub Stays : (State → Type 0) → Type 0
Stays fact = (issued : Ledger) (old new : State) (other : ℕ) (asked : Ask) (reply : Reply) → May old other asked → IsStep old other asked reply new → IsSoundFor issued old → fact old → fact new

-- from this state on, the caller ends so
abbrev pub Ends : {R : Type 0} → ℕ → (R → Type 0) → Program Call Reply R → State → Type 0
Ends {R} caller good program start = (issued : Ledger) (events : List Event) (result : R) → IsLawful start events → IsSoundFor issued start → Runs caller program events result → good result

-- behind the first events
record Later (fact : State → Type 0) (rest : List Event) : Type 0 where
  pub state : State
  pub issued : Ledger
  pub sound : IsSoundFor issued state
  pub lawful : IsLawful state rest
  pub holds : fact state

behind : (fact : State → Type 0) → Stays fact → (first rest : List Event) (issued : Ledger) (start : State) → IsLawful start (first ++ rest) → IsSoundFor issued start → fact start → Later fact rest
behind fact stays [] rest issued start lawful s f = record { state = start; issued = issued; sound = s; lawful = lawful; holds = f }
behind fact stays (e ∷ first) rest issued start lawful s f = behind fact stays first rest (issued_after issued start e.ask.call e.reply) e.after lawful.2
    (later issued start e.after e.caller e.ask e.reply lawful.0 lawful.1 s) (stays issued start e.after e.caller e.ask e.reply lawful.0 lawful.1 s f)

first_lawful : (start : State) (first rest : List Event) → IsLawful start (first ++ rest) → IsLawful start first
first_lawful start [] rest lawful = tt
first_lawful start (e ∷ first) rest lawful = (lawful.0, lawful.1, first_lawful e.after first rest lawful.2)

module _ {R : Type 0} (caller : ℕ) (good : R → Type 0) where
  -- it is at its end
  pub ends_done : (r : R) → good r → (start : State) → Ends caller good (done r) start
  ends_done r is start issued events result lawful s runs = subst good runs.1 is

  -- its next call is made where this holds, whatever others call before it
  pub ends_ask : (fact : State → Type 0) → Stays fact → (call : Call) (k : Reply → Program Call Reply R)
      → ((issued : Ledger) (state : State) (reply : Reply) (after : State) → May state caller (unbroken call) → IsStep state caller (unbroken call) reply after → IsSoundFor issued state → fact state → Ends caller good (k reply) after)
      → (start : State) → fact start → Ends caller good (ask call k) start
  ends_ask fact stays call k leads start f issued [] result lawful s runs = absurd runs
  ends_ask fact stays call k leads start f issued (e ∷ events) result lawful s runs =
      let s' = later issued start e.after e.caller e.ask e.reply lawful.0 lawful.1 s in
      elim (runs_next caller call k e events result runs) as (λ _. good result) [
        | inl (other, on) ↦ ends_ask fact stays call k leads e.after (stays issued start e.after e.caller e.ask e.reply lawful.0 lawful.1 s f) (issued_after issued start e.ask.call e.reply) events result lawful.2 s' on
        | inr (own, asked, on) ↦
            let may : May start caller (unbroken call) = subst (λ a. May start caller a) asked (subst (λ c. May start c e.ask) own lawful.0) in
            let step : IsStep start caller (unbroken call) e.reply e.after = subst (λ a. IsStep start caller a e.reply e.after) asked (subst (λ c. IsStep start c e.ask e.reply e.after) own lawful.1) in
            leads issued start e.reply e.after may step s f (issued_after issued start e.ask.call e.reply) events result lawful.2 s' on
      ]

  -- the same where nothing has to hold: the reply shows no damage
  pub ends_call : (call : Call) (k : Reply → Program Call Reply R) → ((reply : Reply) → ShowsNoDamage reply → (after : State) → Ends caller good (k reply) after) → (start : State) → Ends caller good (ask call k) start
  ends_call call k leads start = ends_ask (λ state. Unit {0}) (λ issued old new other asked reply may step s f. tt) call k
      (λ issued state reply after may step s f. leads reply (step_shows issued state after caller (unbroken call) reply may step s) after) start tt

  -- one program after another
  pub ends_both : {X : Type 0} (such : X → Type 0) (fact : State → Type 0) → Stays fact → (p : Program Call Reply X) (next : X → Program Call Reply R) (start : State) → fact start → Ends caller such p start
      → ((x : X) → such x → (state : State) → fact state → Ends caller good (next x) state) → Ends caller good (followed_by p next) start
  ends_both such fact stays p next start f first then_ issued events result lawful s runs =
      let two = runs_in_two caller p next events result runs in
      let both : IsLawful start (two.first ++ two.rest) = subst (IsLawful start) two.all lawful in
      let came = first issued two.first two.value (first_lawful start two.first two.rest both) s two.runs in
      let on : Later fact two.rest = behind fact stays two.first two.rest issued start both s f in
      then_ two.value came on.state on.holds on.issued two.rest result on.lawful on.sound two.then_runs

-- ---- programs that may end in trouble

module _ {R : Type 0} (caller : ℕ) where
  -- it goes on with what a reply gave, or its trouble is no damage
  pub ends_given : {A : Type 0} (o : Option A) (why : Stuck) (next : A → Program Call Reply (Result R Stuck)) → IsNoDamage why → ((a : A) → o ≡ Some a → (state : State) → Ends caller IsUndamaged (next a) state) → (state : State) → Ends caller IsUndamaged (given o why next) state
  ends_given None why next plain on = ends_done caller IsUndamaged (Err why) plain
  ends_given (Some a) why next plain on = on a (λ i. Some a)

  pub ends_on_ok : {A : Type 0} (next : A → Program Call Reply (Result R Stuck)) (result : Result A Stuck) → IsUndamaged result → ((a : A) → (state : State) → Ends caller IsUndamaged (next a) state) → (state : State) → Ends caller IsUndamaged (on_ok next result) state
  ends_on_ok next (Ok a) plain on = on a
  ends_on_ok next (Err why) plain on = ends_done caller IsUndamaged (Err why) plain
