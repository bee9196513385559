-- A run of a machine's program, taken event by event.
use Rattle.std.proofs.Common.{◌≡◌, ◌≢◌, ◌⊎◌, inl, inr, ℕ, List, [], ◌∷◌, ◌++◌, refl, ap}
use Rattle.turn_object.specs.Callers.{made_by}
use Rattle.mount_model.specs.declared.call.Call.{Call}
use Rattle.mount_model.specs.declared.reply.Reply.{Reply}
use Rattle.mount_model.specs.History.{Event}
use Rattle.mount_model.specs.Program.{Program, followed_by, done, ask}
use Rattle.mount_model.proofs.Stories.Facts.{next_call, no_call, after_another, after_own}
use Rattle.mount_model.specs.Running.{unbroken, asking, Runs}

-- the first event is another caller's, or the program's next call
pub runs_next : {X : Type 0} (me : ℕ) (q : Call) (k : Reply → Program Call Reply X) (event : Event) (events : List Event) (out : X) → Runs me (ask q k) (event ∷ events) out
    → ((event.caller ≢ me) × Runs me (ask q k) events out) ⊎ ((event.caller ≡ me) × (event.ask ≡ unbroken q) × Runs me (k event.reply) events out)
runs_next me q k event events out r = next_call me (unbroken q) (λ reply. asking (k reply)) event events out r

-- after the program's end only others call
pub runs_done : {X : Type 0} (me : ℕ) (x : X) (event : Event) (events : List Event) (out : X) → Runs me (done x) (event ∷ events) out → (event.caller ≢ me) × Runs me (done x) events out
runs_done me x event events out r = no_call me x event events out r

-- One program was made after another.
pub record RunsInTwo {X Y : Type 0} (me : ℕ) (p : Program Call Reply Y) (next : Y → Program Call Reply X) (events : List Event) (out : X) : Type 0 where
  pub first : List Event
  pub rest : List Event
  pub value : Y
  pub all : events ≡ first ++ rest
  pub runs : Runs me p first value
  pub then_runs : Runs me (next value) rest out

pub runs_in_two : {X Y : Type 0} (me : ℕ) (p : Program Call Reply Y) (next : Y → Program Call Reply X) (events : List Event) (out : X) → Runs me (followed_by p next) events out → RunsInTwo me p next events out
runs_in_two me (done y) next events out r = record { first = []; rest = events; value = y; all = refl; runs = (refl, refl); then_runs = r }
runs_in_two me (ask q k) next [] out r = absurd r
runs_in_two {X} {Y} me (ask q k) next (event ∷ events) out r = elim (runs_next me q (λ reply. followed_by (k reply) next) event events out r) as (λ _. RunsInTwo me (ask q k) next (event ∷ events) out) [
  | inl (other, r') ↦
      let s = runs_in_two me (ask q k) next events out r' in
      record { first = event ∷ s.first; rest = s.rest; value = s.value; all = λ i. event ∷ s.all i; runs = after_another me (asking (ask q k)) event s.first s.value other s.runs; then_runs = s.then_runs }
  | inr (own, asked, r') ↦
      let s = runs_in_two me (k event.reply) next events out r' in
      record { first = event ∷ s.first; rest = s.rest; value = s.value; all = λ i. event ∷ s.all i; runs = after_own me (unbroken q) (λ reply. asking (k reply)) event s.first s.value own asked s.runs; then_runs = s.then_runs }
]
