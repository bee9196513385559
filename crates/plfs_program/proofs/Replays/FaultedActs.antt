-- What faulted acts left is a plan, to which the calls keep.
use Rattle.std.proofs.Common.{◌≡◌, ℕ, ◌+◌, ◌-◌, ◌<◌, ◌≤◌, ◌^◌, ◌⊎◌, inl, inr, Bool, true, false, nat_eq, if◌then◌else◌, List, [], ◌∷◌, ◌++◌, Option, Some, None, refl, sym, ap, ◌∙◌, subst, arith}
use Rattle.std.specs.List.{AllByRecursion}
use Rattle.std.proofs.lemmas.Bool.Decides.{nat_tests}
use Rattle.plfs_types.specs.Counts.{next_count}
use Rattle.store_api.specs.Acts.{Stored}
use Rattle.script_lang.specs.declared.line.Line.{Line}
use Rattle.script_lang.specs.declared.script.Script.{Script}
use Rattle.mount_model.specs.State.{State}
use Rattle.mount_model.specs.History.{Event, state_after}
use Rattle.mount_sound.specs.Owed.{IsLawful}
use Rattle.mount_core.specs.Memory.{HadMemory}
use Rattle.run_core.specs.Play.{IsPlay}
use Rattle.step_laws.specs.Alike.{TellsAll, StillCounts}
use Rattle.plfs_program.specs.FaultedActs.{left_where_faulted, left_by_faulted}
use Rattle.plfs_program.specs.Planned.{FaultPlan, GoesAsPlanned, idle, well, badly, KeepsTo}
use Rattle.plfs_program.proofs.Replays.Replaying.{CountsOn, acts_before, faults_before, none_came, step_tells}

-- ---- an act faulted, or not

pub faulted_so : (old new : Stored) (P : List Stored → Type 0) → (new.faults ≡ old.faults → P []) → ((new.faults ≡ old.faults → ⊥) → P (new ∷ [])) → P (left_where_faulted old new)
faulted_so old new P same risen = elim (nat_eq new.faults old.faults) as (λ b. nat_eq new.faults old.faults ≡ b → P (if b then [] else new ∷ [])) [
  | true ↦ λ e. (let f : new.faults ≡ old.faults = grind (arith, nat_tests) in same f)
  | false ↦ λ e. risen (λ f. (let t : nat_eq new.faults old.faults ≡ true = grind (arith, nat_tests) in let no : true ≡ false = sym t ∙ e in cc))
] refl

pub cases_faulted : (old new : Stored) (rest : List Stored) (P : List Stored → Type 0) → (new.faults ≡ old.faults → P rest) → ((new.faults ≡ old.faults → ⊥) → P (new ∷ rest)) → P (left_where_faulted old new ++ rest)
cases_faulted old new rest P same risen = faulted_so old new (λ left. P (left ++ rest)) same risen

-- without a fault nothing is left by a faulted act
pub none_left : (old : State) (es : List Event) → IsLawful old es → (state_after old es).store.faults ≡ old.store.faults → left_by_faulted old.store es ≡ []
none_left old [] lawful none = refl
none_left old (e ∷ es) lawful none =
    let here = none_came old e es lawful none in
    cases_faulted old.store e.after.store (left_by_faulted e.after.store es) (λ left. left ≡ []) (λ same. none_left e.after es lawful.2 (none ∙ sym here)) (λ risen. absurd (risen here))

-- ---- which act it was

-- the store that an act of this number left, if it is among them
abbrev plan_from : List Stored → FaultPlan
plan_from [] number = None
plan_from (s ∷ left) number = if nat_eq s.acts (number + 1) then Some s else plan_from left number

counts_from : (left : List Stored) → AllByRecursion StillCounts left → CountsOn (plan_from left)
counts_from [] all number s planned = let none : None ≡ Some s = planned in absurd (cc)
counts_from (x ∷ left) all number s planned =
    elim (nat_eq x.acts (number + 1)) as (λ b. nat_eq x.acts (number + 1) ≡ b → (if b then Some x else plan_from left number) ≡ Some s → (number < 2 ^ 64 - 1) × (s.faults < 2 ^ 64 - 1)) [
      | true ↦ λ e p. (
          let q : Some x ≡ Some s = p in
          let same : x ≡ s = cc in
          let is : x.acts ≡ number + 1 = grind (arith, nat_tests) in
          let low = all.0.acts in
          (omega (arith, is, low), subst (λ (z : Stored). z.faults < 2 ^ 64 - 1) same all.0.faults))
      | false ↦ λ e p. counts_from left all.1 number s p
    ] refl planned

-- those that are left by later acts have later numbers
from_above : (left : List Stored) (m number : ℕ) (s : Stored) → AllByRecursion (λ (x : Stored). m < x.acts) left → plan_from left number ≡ Some s → m < number + 1
from_above [] m number s all planned = let none : None ≡ Some s = planned in absurd (cc)
from_above (x ∷ left) m number s all planned =
    elim (nat_eq x.acts (number + 1)) as (λ b. nat_eq x.acts (number + 1) ≡ b → (if b then Some x else plan_from left number) ≡ Some s → m < number + 1) [
      | true ↦ λ e p. (let is : x.acts ≡ number + 1 = grind (arith, nat_tests) in let more = all.0 in omega (arith, is, more))
      | false ↦ λ e p. from_above left m number s all.1 p
    ] refl planned

-- ---- later acts

abbrev Moved : ℕ → ℕ → Type 0
Moved old new = (new ≡ old) ⊎ (new ≡ next_count old)

-- an act whose number is counted
one_more : (old new : ℕ) → new < 2 ^ 64 - 1 → new ≡ next_count old → new ≡ old + 1
one_more old new less is = grind (arith)

moved_by : (old new s : ℕ) → Moved old new → new < s → s < 2 ^ 64 - 1 → old < s
moved_by old new s (inl stays) more less = omega (arith, stays, more)
moved_by old new s (inr acted) more less = let is = one_more old new (omega (arith, more, less)) acted in omega (arith, is, more)

all_later : (old new : ℕ) (left : List Stored) → Moved old new → AllByRecursion StillCounts left → AllByRecursion (λ (s : Stored). new < s.acts) left → AllByRecursion (λ (s : Stored). old < s.acts) left
all_later old new [] moved all more = tt
all_later old new (s ∷ left) moved all more = (moved_by old new s.acts moved more.0 all.0.acts, all_later old new left moved all.1 more.1)

moved_acts : (old : State) (e : Event) → (e.after.store ≡ old.store) ⊎ (e.after.store.acts ≡ next_count old.store.acts) → Moved old.store.acts e.after.store.acts
moved_acts old e (inl stays) = inl (ap (λ (s : Stored). s.acts) stays)
moved_acts old e (inr acted) = inr acted

-- an act that faulted moved the count
faulted_moved : (old : State) (e : Event) → (e.after.store.faults ≡ old.store.faults → ⊥) → (e.after.store ≡ old.store) ⊎ (e.after.store.acts ≡ next_count old.store.acts) → e.after.store.acts ≡ next_count old.store.acts
faulted_moved old e risen (inl stays) = absurd (risen (ap (λ (s : Stored). s.faults) stays))
faulted_moved old e risen (inr acted) = acted

less_still : (old new : Stored) → new.faults ≡ old.faults → old.faults < 2 ^ 64 - 1 → new.faults < 2 ^ 64 - 1
less_still old new same room = subst (λ n. n < 2 ^ 64 - 1) (sym same) room

pub later_acts : (old : State) (es : List Event) → TellsAll old → old.store.faults < 2 ^ 64 - 1 → IsLawful old es → HadMemory es → AllByRecursion StillCounts (left_by_faulted old.store es) → AllByRecursion (λ (s : Stored). old.store.acts < s.acts) (left_by_faulted old.store es)
later_acts old [] told room lawful memory all = tt
later_acts old (e ∷ es) told room lawful memory all =
    let one = step_tells old e told room memory.0 lawful.1 in
    let rest : List Stored = left_by_faulted e.after.store es in
    let P : List Stored → Type 0 = λ left. AllByRecursion StillCounts left → AllByRecursion (λ (s : Stored). old.store.acts < s.acts) left in
    cases_faulted old.store e.after.store rest P
    (λ same few. all_later old.store.acts e.after.store.acts rest (moved_acts old e one.moved) few
    (later_acts e.after es one.tells (less_still old.store e.after.store same room) lawful.2 memory.1 few))
    (λ risen few. (
      (let is = one_more old.store.acts e.after.store.acts few.0.acts (faulted_moved old e risen one.moved) in omega (arith, is)),
      all_later old.store.acts e.after.store.acts rest (moved_acts old e one.moved) few.1 (later_acts e.after es one.tells few.0.faults lawful.2 memory.1 few.1),
    )) all

-- ---- the calls keep to it

if_so : {A : Type 0} (b : Bool) (x y : A) → b ≡ true → (if b then x else y) ≡ x
if_so true x y e = refl
if_so false x y e = absurd (cc)

if_not : {A : Type 0} (b : Bool) (x y : A) → b ≡ false → (if b then x else y) ≡ y
if_not true x y e = absurd (cc)
if_not false x y e = refl

not_planned : (planned : Option Stored) → ((s : Stored) → planned ≡ Some s → ⊥) → planned ≡ None
not_planned None never = refl
not_planned (Some s) never = absurd (never s refl)

its_number : (acts number : ℕ) → acts ≡ number + 1 → nat_eq acts (number + 1) ≡ true
its_number acts number is = grind (arith, nat_tests)

no_number : (acts number : ℕ) → acts ≤ number → nat_eq acts (number + 1) ≡ false
no_number acts number few = grind (arith, nat_tests)

-- an act that did not fail is not planned to
goes_well : (plan : FaultPlan) → CountsOn plan → (old : State) (e : Event) (rest : List Stored) → ((number : ℕ) → number < 2 ^ 64 - 1 → old.store.acts ≤ number → plan number ≡ plan_from rest number)
    → AllByRecursion (λ (s : Stored). e.after.store.acts < s.acts) rest → e.after.store.faults ≡ old.store.faults → (e.after.store ≡ old.store) ⊎ (e.after.store.acts ≡ next_count old.store.acts) → GoesAsPlanned plan old.store e.after.store
goes_well plan counts old e rest agrees later same (inl stays) = idle stays
goes_well plan counts old e rest agrees later same (inr acted) =
    well (not_planned (plan old.store.acts) (λ s planned.
    let low = (counts old.store.acts s planned).0 in
    let found : plan_from rest old.store.acts ≡ Some s = sym (agrees old.store.acts low (omega (arith))) ∙ planned in
    let above = from_above rest e.after.store.acts old.store.acts s later found in
    no_room old.store.acts e.after.store.acts low acted above)) same
  where
    no_room : (old new : ℕ) → old < 2 ^ 64 - 1 → new ≡ next_count old → new < old + 1 → ⊥
    no_room old new low is less = grind (arith)

keeps_so : (plan : FaultPlan) → CountsOn plan → (old : State) (es : List Event) → TellsAll old → old.store.faults < 2 ^ 64 - 1 → IsLawful old es → HadMemory es → AllByRecursion StillCounts (left_by_faulted old.store es)
    → ((number : ℕ) → number < 2 ^ 64 - 1 → old.store.acts ≤ number → plan number ≡ plan_from (left_by_faulted old.store es) number) → KeepsTo plan old es
keeps_so plan counts old [] told room lawful memory all agrees = tt
keeps_so plan counts old (e ∷ es) told room lawful memory all agrees =
    let one = step_tells old e told room memory.0 lawful.1 in
    let rest : List Stored = left_by_faulted e.after.store es in
    let P : List Stored → Type 0 = λ left. AllByRecursion StillCounts left → ((number : ℕ) → number < 2 ^ 64 - 1 → old.store.acts ≤ number → plan number ≡ plan_from left number) → KeepsTo plan old (e ∷ es) in
    cases_faulted old.store e.after.store rest P
    (λ same few is.
    let less = less_still old.store e.after.store same room in (
      goes_well plan counts old e rest is (later_acts e.after es one.tells less lawful.2 memory.1 few) same one.moved,
      keeps_so plan counts e.after es one.tells less lawful.2 memory.1 few (λ number low above. is number low (before old.store.acts e.after.store.acts number (moved_acts old e one.moved) above low)),
    ))
    (λ risen few is.
    let next = one_more old.store.acts e.after.store.acts few.0.acts (faulted_moved old e risen one.moved) in
    let low = few.0.acts in (
      badly (is old.store.acts (omega (arith, next, low)) (omega (arith)) ∙ if_so _ _ _ (its_number e.after.store.acts old.store.acts next)),
      keeps_so plan counts e.after es one.tells few.0.faults lawful.2 memory.1 few.1 (λ number less above.
          is number less (omega (arith, next, above)) ∙ if_not _ _ _ (no_number e.after.store.acts number above)),
    )) all agrees
  where
    before : (old new number : ℕ) → Moved old new → new ≤ number → number < 2 ^ 64 - 1 → old ≤ number
    before old new number (inl stays) above low = omega (arith, stays, above)
    before old new number (inr acted) above low = let is = one_more old new (omega (arith, above, low)) acted in omega (arith, is, above)

-- so two runs whose faulted acts left the same keep to one plan
pub record PlannedFrom (left : List Stored) : Type 0 where
  pub plan : FaultPlan
  pub counts : CountsOn plan
  pub keeps : (old : State) (es : List Event) → TellsAll old → old.store.faults < 2 ^ 64 - 1 → IsLawful old es → HadMemory es → left_by_faulted old.store es ≡ left → KeepsTo plan old es

pub planned_from : (left : List Stored) → AllByRecursion StillCounts left → PlannedFrom left
planned_from left all = record {
  plan = plan_from left;
  counts = counts_from left all;
  keeps = λ old es told room lawful memory is.
      let P : List Stored → Type 0 = λ z. AllByRecursion StillCounts z → KeepsTo (plan_from z) old es in
      subst P is (λ few. keeps_so (plan_from (left_by_faulted old.store es)) (counts_from (left_by_faulted old.store es) few) old es told room lawful memory few (λ number low above. refl)) all;
}

-- ---- each play keeps to a plan: that of its own faulted acts

-- where no count has come to its end, none of what they left had
all_still : (old : State) (es : List Event) → TellsAll old → IsLawful old es → HadMemory es → (state_after old es).store.faults < 2 ^ 64 - 1 → (state_after old es).store.acts < 2 ^ 64 - 1 → AllByRecursion StillCounts (left_by_faulted old.store es)
all_still old [] told lawful memory faults acts = tt
all_still old (e ∷ es) told lawful memory faults acts =
    let one = step_tells old e told (faults_before old (e ∷ es) (2 ^ 64 - 1) lawful faults) memory.0 lawful.1 in
    let rest = all_still e.after es one.tells lawful.2 memory.1 faults acts in
    cases_faulted old.store e.after.store (left_by_faulted e.after.store es) (λ left. AllByRecursion StillCounts left) (λ same. rest)
    (λ risen. (record { acts = acts_before e.after es one.tells lawful.2 memory.1 faults acts; faults = faults_before e.after es (2 ^ 64 - 1) lawful.2 faults }, rest))

pub play_plan : (script : Script) (start end : State) (lines : List Line) → TellsAll start → (play : IsPlay script start lines end) → StillCounts end.store → (plan : FaultPlan) × KeepsTo plan start play.history
play_plan script start end lines told play room =
    let lawful = play.leads.lawful in
    let few : (state_after start play.history).store.faults < 2 ^ 64 - 1 = subst (λ (s : State). s.store.faults < 2 ^ 64 - 1) (sym play.leads.ends) room.faults in
    let counted : (state_after start play.history).store.acts < 2 ^ 64 - 1 = subst (λ (s : State). s.store.acts < 2 ^ 64 - 1) (sym play.leads.ends) room.acts in
    let plan = planned_from (left_by_faulted start.store play.history) (all_still start play.history told lawful play.had_memory few counted) in
    (plan.plan, plan.keeps start play.history told (faults_before start play.history (2 ^ 64 - 1) lawful few) lawful play.had_memory refl)
