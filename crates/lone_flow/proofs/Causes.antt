-- A program that ends in a fault only where one was answered, and what a fault says of the store.
use Rattle.std.proofs.Common.{◌≡◌, ◌≢◌, ◌⊎◌, inl, inr, ℕ, ◌≤◌, Bool, true, false, List, [], ◌∷◌, Option, Some, None, Result, Ok, Err, refl, sym, ◌∙◌, subst, arith}
use Rattle.std.specs.Prelude.{if◌then◌else◌}
use Rattle.std.specs.List.{AllByRecursion}
use Rattle.plfs_types.specs.Counts.{HasRisen}
use Rattle.plfs_types.specs.declared.names.Path.{Path}
use Rattle.store_api.specs.declared.step.Answer.{Answer}
use Rattle.store_api.specs.declared.step.Answer.TheVariants as answer
use Rattle.mount_model.specs.declared.stuck.Stuck.{Stuck}
use Rattle.mount_model.specs.declared.stuck.Stuck.TheVariants as stuck
use Rattle.mount_model.specs.Running.{Runs}
use Rattle.mount_model.proofs.Flows.Facts.{runs_done, runs_next}
use Rattle.mount_model.specs.Program.{Program, done, ask, followed_by}
use Rattle.mount_model.specs.declared.call.Ask.{Ask}
use Rattle.mount_model.specs.declared.call.Call.{Call}
use Rattle.mount_model.specs.declared.call.Call.TheVariants.{Look}
use Rattle.mount_model.specs.declared.call.Look.{Look as Looking}
use Rattle.mount_model.specs.declared.reply.Refusal.{Refusal}
use Rattle.mount_model.specs.declared.reply.Reply.{Reply}
use Rattle.mount_model.specs.declared.reply.Reply.TheVariants as reply_of
use Rattle.mount_model.specs.Paths.{Name}
use Rattle.mount_model.specs.Replies.{FitsAsk, FitsCall, IsTrouble, refused, damaged, fault, no_memory}
use Rattle.mount_model.specs.History.{Event, state_after}
use Rattle.mount_model.specs.State.{State}
use Rattle.mount_model.proofs.Facts.{step_causes, step_fits}
use Rattle.mount_sound.specs.Owed.{IsLawful}
use Rattle.mount_model.specs.FlowReplies.{Tries, failure, given, on_ok, trouble}
use Rattle.mount_core.specs.Memory.{HadMemory}
use Rattle.lone_flow.specs.Faults.{IsFault}

-- the trouble is no fault
abbrev pub IsNoFault : Stuck → Type 0
IsNoFault stuck.Fault = ⊥
IsNoFault (stuck.Damaged folder file place) = Unit {0}
IsNoFault (stuck.Refused why) = Unit {0}

abbrev pub HasNoFault : {R : Type 0} → Result R Stuck → Type 0
HasNoFault (Ok result) = Unit {0}
HasNoFault (Err why) = IsNoFault why

-- the reply fits, is no fault, and was not for want of memory
pub record IsAnswered (call : Call) (reply : Reply) : Type 0 where
  pub fits : FitsCall call reply
  pub has_memory : reply ≢ reply_of.NoMemory
  pub is_good : reply ≢ reply_of.Fault

-- while each call is answered so, it ends in no fault
abbrev pub EndsWell : {R : Type 0} → Program Call Reply (Result R Stuck) → Type 0
EndsWell (done result) = HasNoFault result
EndsWell (ask call k) = (reply : Reply) → IsAnswered call reply → EndsWell (k reply)

-- ---- one program after another

pub given_well : {A R : Type 0} (found : Option A) (why : Stuck) (next : A → Tries R) → (found ≡ None → IsNoFault why) → ((a : A) → EndsWell (next a)) → EndsWell (given found why next)
given_well None why next fine goes = fine refl
given_well (Some a) why next fine goes = goes a

pub on_ok_well : {A R : Type 0} (next : A → Tries R) (result : Result A Stuck) → HasNoFault result → ((a : A) → EndsWell (next a)) → EndsWell (on_ok next result)
on_ok_well next (Ok a) fine goes = goes a
on_ok_well next (Err why) fine goes = fine

pub then_well : {A R : Type 0} (program : Tries A) (next : A → Tries R) → EndsWell program → ((a : A) → EndsWell (next a)) → EndsWell (followed_by program (on_ok next))
then_well (done result) next well goes = on_ok_well next result well goes
then_well (ask call k) next well goes = λ reply answered. then_well (k reply) next (well reply answered) goes

pub either_well : {R : Type 0} (b : Bool) (p q : Tries R) → EndsWell p → EndsWell q → EndsWell (if b then p else q)
either_well true p q one other = one
either_well false p q one other = other

-- ---- replies that give nothing

looked_plain : (path : Path) (told : Answer) → IsNoFault (trouble path (reply_of.Looked told))
looked_plain path answer.NoFolder = tt
looked_plain path answer.Made = tt
looked_plain path (answer.Old room) = tt
looked_plain path answer.Absent = tt
looked_plain path answer.NoRoom = tt
looked_plain path (answer.NotEmpty least) = tt
looked_plain path answer.TargetThere = tt
looked_plain path (answer.Names names) = tt
looked_plain path (answer.Number value) = tt
looked_plain path (answer.Bytes bytes) = tt
looked_plain path answer.Beyond = tt

-- of whatever a reply of trouble is made
plain_by : {may : Refusal → Type 0} (why_of : Reply → Stuck) (reply : Reply) → reply ≢ reply_of.NoMemory → reply ≢ reply_of.Fault → IsTrouble may reply
    → ((why : Refusal) → IsNoFault (why_of (reply_of.Refused why))) → ((folder file : Name) → IsNoFault (why_of (reply_of.Damaged folder file))) → IsNoFault (why_of reply)
plain_by why_of reply had good (refused why may e) refuses damages = subst (λ (r : Reply). IsNoFault (why_of r)) (sym e) (refuses why)
plain_by why_of reply had good (damaged folder file e) refuses damages = subst (λ (r : Reply). IsNoFault (why_of r)) (sym e) (damages folder file)
plain_by why_of reply had good (fault e) refuses damages = absurd (good e)
plain_by why_of reply had good (no_memory e) refuses damages = absurd (had e)

pub look_plain : (room : ℕ) (look : Looking) (path : Path) (reply : Reply) → IsAnswered (Look room look) reply → IsNoFault (trouble path reply)
look_plain room look path reply answered = elim answered.fits as (λ _. IsNoFault (trouble path reply)) [
  | inl p ↦ subst (λ (r : Reply). IsNoFault (trouble path r)) (sym p.2) (looked_plain path p.0)
  | inr t ↦ plain_by (trouble path) reply answered.has_memory answered.is_good t (λ why. tt) (λ folder file. tt)
]

pub failure_plain : {may : Refusal → Type 0} (reply : Reply) → reply ≢ reply_of.NoMemory → reply ≢ reply_of.Fault → IsTrouble may reply → IsNoFault (failure reply)
failure_plain reply had good t = plain_by failure reply had good t (λ why. tt) (λ folder file. tt)

-- ---- the count of faults

fault_or : (reply : Reply) → (reply ≡ reply_of.Fault) ⊎ (reply ≢ reply_of.Fault)
fault_or reply_of.Fault = inl refl
fault_or reply_of.Greeted = inr (λ e. cc)
fault_or (reply_of.Room room) = inr (λ e. cc)
fault_or (reply_of.Rooms names) = inr (λ e. cc)
fault_or (reply_of.Looked told) = inr (λ e. cc)
fault_or (reply_of.Entered writer) = inr (λ e. cc)
fault_or (reply_of.Floored floor) = inr (λ e. cc)
fault_or reply_of.Done = inr (λ e. cc)
fault_or (reply_of.Wrote stamp) = inr (λ e. cc)
fault_or (reply_of.Flushed landed) = inr (λ e. cc)
fault_or (reply_of.Synced landed) = inr (λ e. cc)
fault_or (reply_of.Holding holder) = inr (λ e. cc)
fault_or (reply_of.Marked stamp) = inr (λ e. cc)
fault_or (reply_of.Started flat) = inr (λ e. cc)
fault_or (reply_of.Mended made) = inr (λ e. cc)
fault_or reply_of.Stopped = inr (λ e. cc)
fault_or (reply_of.Refused why) = inr (λ e. cc)
fault_or (reply_of.Damaged folder file) = inr (λ e. cc)
fault_or reply_of.NoMemory = inr (λ e. cc)

risen_before : (a b c : ℕ) → a ≤ b → HasRisen b c → HasRisen a c
risen_before a b c le (inl lt) = inl (omega (arith, le, lt))
risen_before a b c le (inr most) = inr most

risen_after : (a b c : ℕ) → HasRisen a b → b ≤ c → HasRisen a c
risen_after a b c (inl lt) le = inl (omega (arith, le, lt))
risen_after a b c (inr most) le = inr (omega (arith, le, most))

never_falls : (start : State) (history : List Event) → IsLawful start history → start.store.faults ≤ (state_after start history).store.faults
never_falls start [] lawful = omega arith
never_falls start (e ∷ es) lawful =
    let here = (step_causes start e.after e.caller e.ask e.reply lawful.1).never_falls in
    let there = never_falls e.after es lawful.2 in
    omega (arith, here, there)

no_fault_ends : {R : Type 0} (result told : Result R Stuck) → HasNoFault result → result ≡ told → IsFault told → ⊥
no_fault_ends {R} result told fine is bad = subst (λ (r : Result R Stuck). HasNoFault r) (is ∙ bad) fine

-- Caller 0 by itself ran the program, and was never refused memory. Where it ended in a fault, the store's count of faults has risen.
pub run_caused : {R : Type 0} (program : Tries R) (start : State) (events : List Event) (result : Result R Stuck) → EndsWell program → IsLawful start events → HadMemory events → AllByRecursion (λ (e : Event). e.caller ≡ 0) events → Runs 0 program events result → IsFault result
    → HasRisen start.store.faults (state_after start events).store.faults
run_caused (done out) start [] result well lawful had own runs bad = absurd (no_fault_ends out result well runs.1 bad)
run_caused (done out) start (e ∷ es) result well lawful had own runs bad = absurd ((runs_done 0 out e es result runs).0 own.0)
run_caused (ask call k) start [] result well lawful had own runs bad = absurd runs
run_caused {R} (ask call k) start (e ∷ es) result well lawful had own runs bad =
    let causes = step_causes start e.after e.caller e.ask e.reply lawful.1 in
    let Goal : Type 0 = HasRisen start.store.faults (state_after e.after es).store.faults in
    elim (runs_next 0 call k e es result runs) as (λ _. Goal) [
      | inl (other, on) ↦ absurd (other own.0)
      | inr (mine, asked, on) ↦ elim (fault_or e.reply) as (λ _. Goal) [
        | inl is ↦ risen_after start.store.faults e.after.store.faults (state_after e.after es).store.faults (causes.cause is) (never_falls e.after es lawful.2)
        | inr good ↦
            let fits : FitsCall call e.reply = subst (λ (a : Ask). FitsAsk a e.reply) asked (step_fits start e.after e.caller e.ask e.reply lawful.1) in
            let answered : IsAnswered call e.reply = record { fits = fits; has_memory = had.0; is_good = good } in
            risen_before start.store.faults e.after.store.faults (state_after e.after es).store.faults causes.never_falls (run_caused (k e.reply) e.after es result (well e.reply answered) lawful.2 had.1 own.1 on bad)
      ]
    ]
