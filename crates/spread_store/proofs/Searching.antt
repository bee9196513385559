-- A search changes nothing of what the stores hold.
use Rattle.std.proofs.Common.{◌≡◌, ◌≤◌, ◌<◌, ◌+◌, ◌⊎◌, inl, inr, ℕ, zero, suc, true, List, [], ◌∷◌, length, slice_get, slice_set, Option, Some, None, refl, ap, sym, ◌∙◌, subst, arith}
use Rattle.std.specs.Prelude.{Result, Ok, Err}
use Rattle.plfs_types.specs.Counts.{HasRisen}
use Rattle.store_api.specs.declared.tree.Room.{Room}
use Rattle.store_api.specs.declared.tree.Tree.{Tree}
use Rattle.store_api.specs.declared.step.Answer.{Answer}
use Rattle.store_api.specs.declared.store.Trouble.{Trouble}
use Rattle.store_api.specs.declared.store.Trouble.TheVariants.{Fault}
use Rattle.store_api.specs.Step.{Step, Name, find_room}
use Rattle.store_api.specs.Effect.{Effect, effect, number_of, number_or_absent}
use Rattle.store_api.specs.Acts.{Stored, Goes}
use Rattle.store_laws.specs.There.{IsFree, IsRoomOf}
use Rattle.store_laws.specs.Outcomes.{IsLook}
use Rattle.store_laws.specs.Tells.{Tells}
use Rattle.store_laws.proofs.Facts.{look_told, numbered, slice_set_same, unnumbered}
use Rattle.spread_store.specs.Asking.{ActsOn, ActsAt}
use Rattle.spread_store.specs.Joined.{Held, held_by, all_tell, faults_of, rooms_of, rooms_in}
use Rattle.spread_store.specs.Searches.{FirstAnswered, TellsNone, AsksOne, AsksInOrder}
use Rattle.spread_store.specs.Finding.{number_told, SameHeld, FailsHeld, IsNamed, LacksName, FindsIn, Finds}
use Rattle.spread_store.proofs.Lists.{map_slice_set, get_map, length_map}
use Rattle.spread_store.proofs.Held.{nat_cases}
use Rattle.spread_store.proofs.InOrder.{none_answered, more_answered, all_answered}
use Rattle.spread_store.proofs.Going.{faults_same, faults_more, faults_risen, told_at}

-- ---- a look

look_goes : (R : Tree → Tree → Type 0) → ((t new : Tree) → R t new → new ≡ t) → (o new : Option Tree) → Goes R o new → new ≡ o
look_goes R h None new g = g
look_goes R h (Some t) new g = g.1 ∙ ap (λ x. Some x) (h t g.0 g.2)

abbrev moves : Step → Result Answer Trouble → Tree → Tree → Type 0
moves step told t new = Tells step t told new

look_held : (old : List Stored) (n : ℕ) (before after : Stored) (step : Step) (told : Result Answer Trouble) → IsLook step → slice_get old n ≡ Some before
    → Goes (λ t new. Tells step t told new) before.tree after.tree → held_by (slice_set old n after) ≡ held_by old
look_held old n before after step told look was goes =
    map_slice_set (λ (s : Stored). s.tree) old n after
    ∙ ap (λ o. slice_set (held_by old) n o) (look_goes (λ t new. Tells step t told new) (λ t new. look_told step t told new look) before.tree after.tree goes)
    ∙ slice_set_same (held_by old) n before.tree (get_map (λ (s : Stored). s.tree) old n before was)

pub looked : (old new : List Stored) (n : ℕ) (step : Step) (answer : Answer) → IsLook step → ActsOn n step old new (Ok answer) → SameHeld old new
looked old new n step answer look a = subst (λ l. SameHeld old l) (sym a.is) (record {
  held = look_held old n a.before a.after step (Ok answer) look a.was a.acts.tree;
  faults = faults_same old n a.before a.after a.was a.acts.faults;
})

pub look_failed : (old new : List Stored) (n : ℕ) (step : Step) → IsLook step → ActsOn n step old new (Err Fault) → FailsHeld old new
look_failed old new n step look a = subst (λ l. FailsHeld old l) (sym a.is) (record {
  held = look_held old n a.before a.after step (Err Fault) look a.was a.acts.tree;
  faults = faults_more old n a.before a.after a.was a.acts.faults;
  cause = faults_risen old n a.before a.after a.was a.acts.cause;
})

pub same_held : (old new : List Stored) → new ≡ old → SameHeld old new
same_held old new e = record { held = ap held_by e; faults = ap faults_of e }

pub same_then : (old mid new : List Stored) → SameHeld old mid → SameHeld mid new → SameHeld old new
same_then old mid new a b = record { held = b.held ∙ a.held; faults = b.faults ∙ a.faults }

pub same_then_fails : (old mid new : List Stored) → SameHeld old mid → FailsHeld mid new → FailsHeld old new
same_then_fails old mid new a b = record {
  held = b.held ∙ a.held;
  faults = subst (λ n. n ≤ faults_of new) a.faults b.faults;
  cause = subst (λ n. HasRisen n (faults_of new)) a.faults b.cause;
}

-- ---- one store is asked

-- what a tree answers of a name
pub answered_of : (old new : List Stored) (n : ℕ) (step : Step) (answer : Answer) → ActsOn n step old new (Ok answer) → all_tell (held_by old) ≡ true
    → (t : Tree) × (slice_get (held_by old) n ≡ Some (Some t)) × ((effect t step).answer ≡ answer)
answered_of old new n step answer a tell =
    let was = get_map (λ (s : Stored). s.tree) old n a.before a.was in
    let t = told_at (held_by old) n a.before.tree tell was in
    let g : Goes (λ x y. effect x step ≡ record { tree = y; answer = answer }) (Some t.0) a.after.tree = subst (λ o. Goes (λ x y. effect x step ≡ record { tree = y; answer = answer }) o a.after.tree) t.1 a.acts.tree in
    (t.0, was ∙ ap (λ o. Some o) t.1, ap (λ (x : Effect). x.answer) g.2)

told_number : (o : Option ℕ) → number_told (number_or_absent o) ≡ o
told_number None = refl
told_number (Some n) = refl

named_by : (held : Held) (store : ℕ) (t : Tree) (name : Name) (i : ℕ) → slice_get held store ≡ Some (Some t) → IsRoomOf t name i → IsNamed held name (record { store = store; room = i })
named_by held store t name i there f = record { room = f.room; there = ap (λ x. slice_get (rooms_of x) i) there ∙ f.has_room; named = f.named }

lacked_by : (held : Held) (store : ℕ) (t : Tree) (name : Name) → slice_get held store ≡ Some (Some t) → IsFree t name → LacksName held name store
lacked_by held store t name there free i r at same = free i r (sym (ap (λ x. slice_get (rooms_of x) i) there) ∙ at) same

by_told : (old new : List Stored) (store : ℕ) (name : Name) (answer : Answer) (o : Option ℕ) → number_told answer ≡ o → ActsOn store (find_room name) old new (Ok answer) → FindsIn store name old new (Ok o)
by_told old new store name answer None e a = (
  looked old new store (find_room name) answer tt a,
  λ tell.
      let x = answered_of old new store (find_room name) answer a tell in
      lacked_by (held_by old) store x.0 name x.1 (unnumbered x.0 name (sym (told_number (number_of x.0 name)) ∙ ap number_told x.2 ∙ e)),
)
by_told old new store name answer (Some i) e a = (
  looked old new store (find_room name) answer tt a,
  λ tell.
      let x = answered_of old new store (find_room name) answer a tell in
      named_by (held_by old) store x.0 name i x.1 (numbered x.0 name i (sym (told_number (number_of x.0 name)) ∙ ap number_told x.2 ∙ e)),
)

pub found_in : (old new : List Stored) (store : ℕ) (name : Name) (answer : Answer) → ActsAt store (find_room name) old new (Ok answer) → FindsIn store name old new (Ok (number_told answer))
found_in old new store name answer a = by_told old new store name answer (number_told answer) refl a

pub find_failed : (old new : List Stored) (store : ℕ) (name : Name) → ActsAt store (find_room name) old new (Err Fault) → FailsHeld old new
find_failed old new store name a = look_failed old new store (find_room name) tt a

-- ---- they are asked in order

-- what has been learnt of the stores before this one
pub record HasAsked (name : Name) (n : ℕ) (old new : List Stored) : Type 0 where
  pub same : SameHeld old new
  pub none : all_tell (held_by old) ≡ true → (s : ℕ) → s < n → LacksName (held_by old) name s
  pub asked : FirstAnswered (find_room name) TellsNone n old new

pub store_within : (held : Held) (s i : ℕ) (r : Room) → slice_get (rooms_in held s) i ≡ Some r → s < length held
store_within [] s i r e = absurd (cc)
store_within (o ∷ held) zero i r e = omega arith
store_within (o ∷ held) (suc s) i r e = let rest = store_within held s i r e in omega (arith, rest)

-- what is learnt of the stores as they are now holds of them as they were
back : (old mid : List Stored) (P : Held → Type 0) → SameHeld old mid → (all_tell (held_by mid) ≡ true → P (held_by mid)) → all_tell (held_by old) ≡ true → P (held_by old)
back old mid P same h tell = subst P same.held (h (ap all_tell same.held ∙ tell))

pub none_asked : (name : Name) (stores : List Stored) → HasAsked name 0 stores stores
none_asked name stores = record { same = record { held = refl; faults = refl }; none = λ tell s l. absurd (omega arith); asked = none_answered (find_room name) TellsNone stores }

pub more_asked : (name : Name) (n : ℕ) (old mid new : List Stored) → HasAsked name n old mid → FindsIn n name mid new (Ok None) → AsksOne n name mid new (Ok None) → HasAsked name (n + 1) old new
more_asked name n old mid new a f o = record {
  asked = more_answered (find_room name) TellsNone n old mid new o.0 o.1 a.asked o.2;
  same = same_then old mid new a.same f.0;
  none = λ tell s l. elim (nat_cases s n) as (λ _. LacksName (held_by old) name s) [
    | inl e ↦ subst (λ z. LacksName (held_by old) name z) (sym e) (back old mid (λ h. LacksName h name n) a.same f.1 tell)
    | inr other ↦ a.none tell s (omega arith)
  ];
}

pub less_or : (a b : ℕ) → (a < b) ⊎ (b ≤ a)
less_or zero zero = inr (omega arith)
less_or zero (suc b) = inl (omega arith)
less_or (suc a) zero = inr (omega arith)
less_or (suc a) (suc b) = elim (less_or a b) as (λ _. (suc a < suc b) ⊎ (suc b ≤ suc a)) [ inl less ↦ inl (omega arith) | inr more ↦ inr (omega arith) ]

pub found_asked : (name : Name) (n : ℕ) (old mid new : List Stored) (i : ℕ) → HasAsked name n old mid → FindsIn n name mid new (Ok (Some i)) → Finds name old new (Ok (Some (record { store = n; room = i })))
found_asked name n old mid new i a f = (
  same_then old mid new a.same f.0,
  λ tell. back old mid (λ h. IsNamed h name (record { store = n; room = i })) a.same f.1 tell,
  λ tell q r e same. elim (less_or q.store n) as (λ _. n ≤ q.store) [ inl less ↦ absurd (a.none tell q.store less q.room r e same) | inr more ↦ more ],
)

pub all_asked : (name : Name) (n : ℕ) (old new : List Stored) → length old ≤ n → HasAsked name n old new → Finds name old new (Ok None)
all_asked name n old new long a = (
  a.same,
  λ tell p r e same.
      let l = store_within (held_by old) p.store p.room r e in
      let k = length_map (λ (s : Stored). s.tree) old in
      a.none tell p.store (omega (arith, l, k, long)) p.room r e same,
)

pub asked_all : (name : Name) (n : ℕ) (old new : List Stored) → length old ≤ n → HasAsked name n old new → AsksInOrder name old new (Ok None)
asked_all name n old new long a = all_answered (find_room name) TellsNone n old new long a.asked
