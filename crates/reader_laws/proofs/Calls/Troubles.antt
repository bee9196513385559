-- How a call that did not do its work tells of the store.
use Rattle.std.proofs.Common.{◌≡◌, ℕ, ◌≤◌, List, [], ◌∷◌, ◌++◌, refl, ap, sym, ◌⊎◌, inl, inr, subst, arith}
use Rattle.plfs_types.specs.Counts.{HasRisen}
use Rattle.plain_file.proofs.Facts.{Among}
use Rattle.mount_model.specs.declared.call.Ask.{Ask}
use Rattle.mount_model.specs.declared.call.Call.{Call}
use Rattle.mount_model.specs.declared.reply.Reply.{Reply}
use Rattle.mount_model.specs.declared.reply.Reply.TheVariants.{Fault, NoMemory}
use Rattle.mount_model.specs.State.{State}
use Rattle.mount_model.specs.Step.{Answers, IsStep}
use Rattle.mount_model.specs.History.{Event, state_after}
use Rattle.mount_model.proofs.Facts.{step_cases, step_causes}
use Rattle.mount_sound.specs.Owed.{IsLawful}
use Rattle.mount_sound.proofs.Facts.{lawful_first, lawful_rest}
use Rattle.mount_model.specs.declared.stuck.Stuck.{Stuck}
use Rattle.mount_model.specs.declared.stuck.Stuck.TheVariants as stuck
use Rattle.mount_model.specs.Running.{unbroken}
use Rattle.turn_object.proofs.Facts.{state_append}
use Rattle.reader_laws.proofs.Gathered.Facts.{any_found, found_any}
use Rattle.reader_laws.specs.Failing.{FailsByStore}

-- a call that isn't broken off is answered
pub answered : (old : State) (caller : ℕ) (q : Call) (ask : Ask) (reply : Reply) (new : State) → ask ≡ unbroken q → IsStep old caller ask reply new → Answers old caller q reply new
answered old caller q ask reply new is step =
    step_cases old caller (unbroken q) reply new (Answers old caller q reply new) (subst (λ a. IsStep old caller a reply new) is step) (λ none a. a) (λ k some x. absurd (cc))

-- ---- the store's count of faults

pub never_falls : (start : State) (events : List Event) → IsLawful start events → start.store.faults ≤ (state_after start events).store.faults
never_falls start [] lawful = omega arith
never_falls start (e ∷ events) lawful =
    let now = step_causes start e.after e.caller e.ask e.reply lawful.1 in
    omega (arith, now.never_falls, never_falls e.after events lawful.2)

risen_within : (a b c d : ℕ) → a ≤ b → c ≤ d → HasRisen b c → HasRisen a d
risen_within a b c d low high (inl more) = inl (omega (arith, low, high, more))
risen_within a b c d low high (inr full) = inr (omega (arith, high, full))

-- ---- where a call failed

-- the call failed, where the count rose, or wanted memory
abbrev pub IsTroubled : State → Event → Type 0
IsTroubled old e = ((e.reply ≡ Fault) × HasRisen old.store.faults e.after.store.faults) ⊎ (e.reply ≡ NoMemory)

first_event : (before : List Event) (e : Event) (later : List Event) → Among e (before ++ e ∷ later)
first_event [] e later = inl refl
first_event (x ∷ before) e later = inr (first_event before e later)

parts_of : (start : State) (before : List Event) (e : Event) (later : List Event) → IsLawful start (before ++ e ∷ later)
    → (start.store.faults ≤ (state_after start before).store.faults) × (e.after.store.faults ≤ (state_after start (before ++ e ∷ later)).store.faults)
parts_of start [] e later lawful = (omega arith, never_falls e.after later lawful.2)
parts_of start (x ∷ before) e later lawful =
    let rest = parts_of x.after before e later lawful.2 in
    let now = step_causes start x.after x.caller x.ask x.reply lawful.1 in
    (omega (arith, now.never_falls, rest.0), rest.1)

-- a machine that ended with a fault there failed by the store
pub fails_there : (caller : ℕ) (start : State) (before : List Event) (e : Event) (later : List Event) (why : Stuck) → IsLawful start (before ++ e ∷ later) → e.caller ≡ caller → IsTroubled (state_after start before) e → why ≡ stuck.Fault → FailsByStore caller start (before ++ e ∷ later) why
fails_there caller start before e later why lawful own (inl (fault, risen)) is =
    let p = parts_of start before e later lawful in
    (is, inl (risen_within start.store.faults (state_after start before).store.faults e.after.store.faults (state_after start (before ++ e ∷ later)).store.faults p.0 p.1 risen))
fails_there caller start before e later why lawful own (inr memory) is =
    (is, inr (found_any (λ (x : Event). (x.caller ≡ caller) × (x.reply ≡ NoMemory)) (before ++ e ∷ later) e (first_event before e later) (own, memory)))

among_later : (x : Event) (before : List Event) (e : Event) (later : List Event) → Among x later → Among x (before ++ e ∷ later)
among_later x [] e later a = inr a
among_later x (y ∷ before) e later a = inr (among_later x before e later a)

-- what failed later failed in all
pub fails_later : (caller : ℕ) (start : State) (before : List Event) (e : Event) (later : List Event) (why : Stuck) → IsLawful start (before ++ e ∷ later) → FailsByStore caller e.after later why → FailsByStore caller start (before ++ e ∷ later) why
fails_later caller start before e later why lawful (is, inl risen) =
    let p = parts_of start before e later lawful in
    let steps = after_all start before e later lawful in
    (is, inl (subst (HasRisen start.store.faults) (sym (ap (λ (s : State). s.store.faults) (ends start before e later))) (risen_within start.store.faults e.after.store.faults (state_after e.after later).store.faults (state_after e.after later).store.faults steps (omega arith) risen)))
  where
    ends : (s : State) (first : List Event) (x : Event) (rest : List Event) → state_after s (first ++ x ∷ rest) ≡ state_after x.after rest
    ends s [] x rest = refl
    ends s (y ∷ first) x rest = ends y.after first x rest

    after_all : (s : State) (first : List Event) (x : Event) (rest : List Event) → IsLawful s (first ++ x ∷ rest) → s.store.faults ≤ x.after.store.faults
    after_all s [] x rest lawful = (step_causes s x.after x.caller x.ask x.reply lawful.1).never_falls
    after_all s (y ∷ first) x rest lawful = omega (arith, (step_causes s y.after y.caller y.ask y.reply lawful.1).never_falls, after_all y.after first x rest lawful.2)
fails_later caller start before e later why lawful (is, inr memory) =
    let m = any_found (λ (x : Event). (x.caller ≡ caller) × (x.reply ≡ NoMemory)) later memory in
    (is, inr (found_any (λ (x : Event). (x.caller ≡ caller) × (x.reply ≡ NoMemory)) (before ++ e ∷ later) m.0 (among_later m.0 before e later m.1) m.2))

-- ---- parts of a history

among_first : (x : Event) (first rest : List Event) → Among x first → Among x (first ++ rest)
among_first x [] rest a = absurd a
among_first x (e ∷ first) rest (inl same) = inl same
among_first x (e ∷ first) rest (inr a) = inr (among_first x first rest a)

among_rest : (x : Event) (first rest : List Event) → Among x rest → Among x (first ++ rest)
among_rest x [] rest a = a
among_rest x (e ∷ first) rest a = inr (among_rest x first rest a)

-- what failed at first failed in all
pub fails_first : (caller : ℕ) (start : State) (first rest : List Event) (why : Stuck) → IsLawful start (first ++ rest) → FailsByStore caller start first why → FailsByStore caller start (first ++ rest) why
fails_first caller start first rest why lawful (is, inl risen) = (
  is,
  inl (subst (HasRisen start.store.faults) (sym (ap (λ (s : State). s.store.faults) (state_append start first rest)))
      (risen_within start.store.faults start.store.faults (state_after start first).store.faults (state_after (state_after start first) rest).store.faults (omega arith) (never_falls (state_after start first) rest (lawful_rest start first rest lawful)) risen)),
)
fails_first caller start first rest why lawful (is, inr memory) =
    let m = any_found (λ (x : Event). (x.caller ≡ caller) × (x.reply ≡ NoMemory)) first memory in
    (is, inr (found_any (λ (x : Event). (x.caller ≡ caller) × (x.reply ≡ NoMemory)) (first ++ rest) m.0 (among_first m.0 first rest m.1) m.2))

-- and what failed in the rest
pub fails_rest : (caller : ℕ) (start : State) (first rest : List Event) (why : Stuck) → IsLawful start (first ++ rest) → FailsByStore caller (state_after start first) rest why → FailsByStore caller start (first ++ rest) why
fails_rest caller start first rest why lawful (is, inl risen) = (
  is,
  inl (subst (HasRisen start.store.faults) (sym (ap (λ (s : State). s.store.faults) (state_append start first rest)))
      (risen_within start.store.faults (state_after start first).store.faults (state_after (state_after start first) rest).store.faults (state_after (state_after start first) rest).store.faults (never_falls start first (lawful_first start first rest lawful)) (omega arith) risen)),
)
fails_rest caller start first rest why lawful (is, inr memory) =
    let m = any_found (λ (x : Event). (x.caller ≡ caller) × (x.reply ≡ NoMemory)) rest memory in
    (is, inr (found_any (λ (x : Event). (x.caller ≡ caller) × (x.reply ≡ NoMemory)) (first ++ rest) m.0 (among_rest m.0 first rest m.1) m.2))
