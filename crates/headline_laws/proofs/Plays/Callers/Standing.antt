-- Where a caller stands in a history.
use Rattle.std.proofs.Common.{◌≡◌, ℕ, ◌≤◌, List, [], ◌∷◌, ◌++◌, sym, ap, ◌∙◌, inl, inr, subst, arith, append_assoc}
use Rattle.std.specs.List.{AllByRecursion}
use Rattle.plfs_types.specs.Counts.{HasRisen}
use Rattle.plain_file.proofs.Facts.{All-Among}
use Rattle.mount_model.specs.declared.reply.Reply.TheVariants.{NoMemory}
use Rattle.mount_model.specs.State.{State}
use Rattle.mount_model.specs.History.{Event, state_after}
use Rattle.mount_model.proofs.Facts.{step_causes}
use Rattle.mount_sound.specs.Owed.{IsLawful}
use Rattle.turn_object.specs.Front.{KeepsIn}
use Rattle.turn_object.proofs.Facts.{state_append}
use Rattle.mount_model.specs.declared.stuck.Stuck.{Stuck}
use Rattle.mount_model.specs.declared.stuck.Stuck.TheVariants as stuck
use Rattle.reader_laws.specs.Moments.{Moment, IsSoundAt, moment_after}
use Rattle.reader_laws.proofs.Gathered.Facts.{any_found, follows, legal_first, legal_rest, moment-append, sound_after}
use Rattle.reader_laws.specs.Failing.{FailsByStore, WantsMemory}
use Rattle.reader_laws.proofs.Facts.{fails_first}
use Rattle.run_core.specs.Leading.{HadMemory}
use Rattle.headline_laws.specs.Ending.{FaultRose}

-- ---- memory

pub memory_first : (first rest : List Event) → HadMemory (first ++ rest) → HadMemory first
memory_first [] rest had = tt
memory_first (e ∷ first) rest had = (had.0, memory_first first rest had.1)

pub memory_rest : (first rest : List Event) → HadMemory (first ++ rest) → HadMemory rest
memory_rest [] rest had = had
memory_rest (e ∷ first) rest had = memory_rest first rest had.1

no_want : (caller : ℕ) (events : List Event) → HadMemory events → WantsMemory caller events → ⊥
no_want caller events had wants =
    let f = any_found (λ (e : Event). (e.caller ≡ caller) × (e.reply ≡ NoMemory)) events wants in
    All-Among (λ (e : Event). e.reply ≡ NoMemory → ⊥) events f.0 had f.1 f.2.1

-- ---- a place in a history

-- These events come next after those of a lawful history from a sound state, and none wanted memory.
pub record Next (start : Moment) (before events : List Event) : Type 0 where
  pub was_lawful : IsLawful start.state before
  pub lawful : IsLawful (moment_after start before).state events
  pub sound : IsSoundAt (moment_after start before)
  pub had : HadMemory events

pub next_first : (start : Moment) (before first rest : List Event) → Next start before (first ++ rest) → Next start before first
next_first start before first rest n = record {
  was_lawful = n.was_lawful;
  lawful = legal_first (moment_after start before) first rest n.lawful;
  sound = n.sound;
  had = memory_first first rest n.had;
}

lawful_both : (start : State) (first rest : List Event) → IsLawful start first → IsLawful (state_after start first) rest → IsLawful start (first ++ rest)
lawful_both start [] rest one other = other
lawful_both start (e ∷ first) rest one other = (one.0, one.1, lawful_both e.after first rest one.2 other)

pub lawful_together : (m : Moment) (first rest : List Event) → IsLawful m.state first → IsLawful (moment_after m first).state rest → IsLawful m.state (first ++ rest)
lawful_together m first rest one other = lawful_both m.state first rest one (subst (λ st. IsLawful st rest) (follows m first).0 other)

pub next_rest : (start : Moment) (before first rest : List Event) → Next start before (first ++ rest) → Next start (before ++ first) rest
next_rest start before first rest n =
    let m : Moment = moment_after start before in
    let is : moment_after m first ≡ moment_after start (before ++ first) = sym (moment-append start before first) in
    record {
      was_lawful = lawful_together start before first n.was_lawful (legal_first m first rest n.lawful);
      lawful = subst (λ (x : Moment). IsLawful x.state rest) is (legal_rest m first rest n.lawful);
      sound = subst IsSoundAt is (sound_after m first (legal_first m first rest n.lawful) n.sound);
      had = memory_rest first rest n.had;
    }

pub next_is : (start : Moment) (before events other : List Event) → events ≡ other → Next start before events → Next start before other
next_is start before events other is n = subst (Next start before) is n

-- ---- the store's count of faults

never_falls : (start : State) (events : List Event) → IsLawful start events → start.store.faults ≤ (state_after start events).store.faults
never_falls start [] lawful = omega arith
never_falls start (e ∷ events) lawful =
    let now = step_causes start e.after e.caller e.ask e.reply lawful.1 in
    omega (arith, now.never_falls, never_falls e.after events lawful.2)

risen_from : (a b c : ℕ) → a ≤ b → HasRisen b c → HasRisen a c
risen_from a b c low (inl more) = inl (omega (arith, low, more))
risen_from a b c low (inr full) = inr (omega (arith, full))

-- what failed by the store is a fault, and the count rose in the stretch
pub record FailedHere (start : Moment) (before events : List Event) (why : Stuck) : Type 0 where
  pub fault : why ≡ stuck.Fault
  pub rose : FaultRose start (record { before = before; events = events })

-- a machine that failed by the store in the events behind others
pub failed : (caller : ℕ) (start : Moment) (before first events : List Event) (why : Stuck) → Next start before (first ++ events) → FailsByStore caller (moment_after start (before ++ first)).state events why → FailedHere start before (first ++ events) why
failed caller start before first events why n (fault, inr wants) = absurd (no_want caller events (memory_rest first events n.had) wants)
failed caller start before first events why n (fault, inl risen) =
    let m : Moment = moment_after start before in
    let s0 : State = state_after start.state before in
    let s1 : State = state_after s0 first in
    let is0 : m.state ≡ s0 = (follows start before).0 in
    let is1 : (moment_after start (before ++ first)).state ≡ s1 = (follows start (before ++ first)).0 ∙ state_append start.state before first in
    let both : state_after start.state (before ++ (first ++ events)) ≡ state_after s1 events = state_append start.state before (first ++ events) ∙ state_append s0 first events in
    let there : HasRisen s1.store.faults (state_after s1 events).store.faults = subst (λ (s : State). HasRisen s.store.faults (state_after s events).store.faults) is1 risen in
    let falls = never_falls s0 first (subst (λ (s : State). IsLawful s first) is0 (legal_first m first events n.lawful)) in
    record {
      fault = fault;
      rose = subst (λ (s : State). HasRisen s0.store.faults s.store.faults) (sym both) (risen_from s0.store.faults s1.store.faults (state_after s1 events).store.faults falls there);
    }

-- where a statement's part of the history begins with a greeting
abbrev pub Behind : Moment → List Event → List Event → Moment
Behind start before greeting = moment_after start (before ++ greeting)

-- one that failed in some events of the statement
pub failed_within : (caller : ℕ) (start : Moment) (before greeting mine first events more : List Event) (why : Stuck) → Next start before (greeting ++ mine) → mine ≡ first ++ (events ++ more) → FailsByStore caller (state_after (Behind start before greeting).state first) events why
    → FailedHere start before (greeting ++ mine) why
failed_within caller start before greeting mine first events more why n split fails =
    let m : Moment = Behind start before greeting in
    let whole : greeting ++ mine ≡ (greeting ++ first) ++ (events ++ more) = ap (λ z. greeting ++ z) split ∙ sym (append_assoc greeting first (events ++ more)) in
    let next : Next start before ((greeting ++ first) ++ (events ++ more)) = next_is start before (greeting ++ mine) ((greeting ++ first) ++ (events ++ more)) whole n in
    let there : state_after m.state first ≡ (moment_after start (before ++ (greeting ++ first))).state =
    sym (follows m first).0 ∙ ap (λ (x : Moment). x.state) (sym (moment-append start (before ++ greeting) first) ∙ ap (moment_after start) (append_assoc before greeting first)) in
    let rest : Next start (before ++ (greeting ++ first)) (events ++ more) = next_rest start before (greeting ++ first) (events ++ more) next in
    let all : FailsByStore caller (moment_after start (before ++ (greeting ++ first))).state (events ++ more) why =
    fails_first caller (moment_after start (before ++ (greeting ++ first))).state events more why rest.lawful (subst (λ st. FailsByStore caller st events why) there fails) in
    subst (λ es. FailedHere start before es why) (sym whole) (failed caller start before (greeting ++ first) (events ++ more) why next all)

-- a statement's events up to there, with the greeting and behind it
pub record Both (start : Moment) (before greeting mine : List Event) : Type 0 where
  pub whole : Next start before (greeting ++ mine)
  pub next : Next start (before ++ greeting) mine

pub up_to : (start : Moment) (before greeting part mine rest : List Event) → Next start before (greeting ++ part) → part ≡ mine ++ rest → Both start before greeting mine
up_to start before greeting part mine rest n split =
    let whole : Next start before (greeting ++ mine) = next_first start before (greeting ++ mine) rest (next_is start before (greeting ++ part) ((greeting ++ mine) ++ rest) (ap (λ z. greeting ++ z) split ∙ sym (append_assoc greeting mine rest)) n) in
    record { whole = whole; next = next_rest start before greeting mine whole }

-- ---- workers

-- each of these workers has these calls in the whole history, of which this part comes behind the others
pub record AllOf (here part : List Event) (workers : List (List Event)) : Type 0 where
  pub tail : List Event
  pub keeps : AllByRecursion (KeepsIn (here ++ (part ++ tail))) workers

pub keeps_first : (events : List Event) (these others : List (List Event)) → AllByRecursion (KeepsIn events) (these ++ others) → AllByRecursion (KeepsIn events) these
keeps_first events [] others all = tt
keeps_first events (c ∷ these) others all = (all.0, keeps_first events these others all.1)

pub keeps_rest : (events : List Event) (these others : List (List Event)) → AllByRecursion (KeepsIn events) (these ++ others) → AllByRecursion (KeepsIn events) others
keeps_rest events [] others all = all
keeps_rest events (c ∷ these) others all = keeps_rest events these others all.1

pub all_of_later : (here part mine rest : List Event) (workers spent others : List (List Event)) → part ≡ mine ++ rest → workers ≡ spent ++ others → AllOf here part workers → AllOf (here ++ mine) rest others
all_of_later here part mine rest workers spent others split are a = record {
  tail = a.tail;
  keeps = subst (λ es. AllByRecursion (KeepsIn es) others) (ap (λ z. here ++ (z ++ a.tail)) split ∙ ap (λ z. here ++ z) (append_assoc mine rest a.tail) ∙ sym (append_assoc here mine (rest ++ a.tail)))
      (keeps_rest (here ++ (part ++ a.tail)) spent others (subst (AllByRecursion (KeepsIn (here ++ (part ++ a.tail)))) are a.keeps));
}
