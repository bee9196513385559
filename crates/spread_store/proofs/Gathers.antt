-- The names of the rooms of all stores.
use Rattle.std.proofs.Common.{◌≡◌, ◌⊎◌, inl, inr, ◌≤◌, ◌<◌, ◌+◌, ℕ, zero, suc, Bool, true, false, ◌||◌, List, [], ◌∷◌, ◌++◌, length, map, slice_get, Some, None, refl, ap, sym, ◌∙◌, subst, arith}
use Rattle.std.specs.Prelude.{Ok, Err}
use Rattle.std.proofs.lemmas.List.Folds.{list_any-append}
use Rattle.store_api.specs.declared.tree.Room.{Room}
use Rattle.store_api.specs.declared.step.Answer.{Answer}
use Rattle.store_api.specs.declared.step.Answer.TheVariants.{Names}
use Rattle.store_api.specs.declared.store.Trouble.TheVariants.{Fault}
use Rattle.store_api.specs.Step.{Name, rooms}
use Rattle.store_api.specs.Names.{same_name, in_byte_order}
use Rattle.store_api.specs.Acts.{Stored}
use Rattle.store_laws.specs.Differ.{is_listed}
use Rattle.store_laws.proofs.Facts.{slice_get-slice_set, slice_get_other-slice_set, in_order, listed_in_order, name_eq, name_refl, ordered_one}
use Rattle.spread_store.specs.declared.places.Place.{Place}
use Rattle.spread_store.specs.Asking.{ActsAt}
use Rattle.spread_store.specs.Joined.{Held, held_by, all_tell, rooms_of, rooms_in, room_at, or_blank, rooms_at, joined, spreading}
use Rattle.spread_store.specs.Fits.{Fits, IsFit}
use Rattle.spread_store.specs.Finding.{SameHeld, FailsHeld, IsNamed}
use Rattle.spread_store.specs.Searches.{FirstAnswered}
use Rattle.spread_store.specs.Listing.{names_told, AnyAnswer, AreAmong, TellsName, AsksRooms, AsksAllRooms, GathersIn, AreNamesIn, Gathers}
use Rattle.spread_store.specs.Performs.{Performs}
use Rattle.spread_store.proofs.Lists.{get_map, length_map}
use Rattle.spread_store.proofs.Held.{nat_cases}
use Rattle.spread_store.proofs.InOrder.{none_answered, more_answered, widened, all_answered}
use Rattle.spread_store.proofs.Searching.{looked, look_failed, answered_of, same_then, store_within}
use Rattle.spread_store.proofs.Naming.{room_of}
use Rattle.spread_store.proofs.Renames.{answered_then}

abbrev pub names_of : List Room → List Name
names_of rs = map (λ (r : Room). r.name) rs

pub either : (a b : Bool) → (a || b) ≡ true → (a ≡ true) ⊎ (b ≡ true)
either true b e = inl refl
either false b e = inr e

pub or_left : (a b : Bool) → a ≡ true → (a || b) ≡ true
or_left true b e = refl
or_left false b e = absurd (cc)

pub or_right : (a b : Bool) → b ≡ true → (a || b) ≡ true
or_right true b e = refl
or_right false b e = e

one_bool : (a b : Bool) → (a ≡ true → b ≡ true) → (b ≡ true → a ≡ true) → a ≡ b
one_bool true b f g = sym (f refl)
one_bool false true f g = g refl
one_bool false false f g = refl

-- ---- listed rooms

pub room_listed : (rs : List Room) (i : ℕ) (r : Room) → slice_get rs i ≡ Some r → is_listed r.name (names_of rs) ≡ true
room_listed [] i r e = absurd (cc)
room_listed (x ∷ rs) zero r e = let same : x ≡ r = cc in or_left (same_name x.name r.name) (is_listed r.name (names_of rs)) (subst (λ (z : Room). same_name z.name r.name ≡ true) (sym same) (name_refl r.name))
room_listed (x ∷ rs) (suc i) r e = or_right (same_name x.name r.name) (is_listed r.name (names_of rs)) (room_listed rs i r e)

pub listed_room : (rs : List Room) (name : Name) → is_listed name (names_of rs) ≡ true → (i : ℕ) × (r : Room) × (slice_get rs i ≡ Some r) × (r.name ≡ name)
listed_room [] name e = absurd (cc)
listed_room (x ∷ rs) name e = elim (either (same_name x.name name) (is_listed name (names_of rs)) e) [
  | inl first ↦ (zero, x, refl, name_eq x.name name first)
  | inr later ↦ let rest = listed_room rs name later in (suc rest.0, rest.1, rest.2, rest.3)
]

-- ---- one store

pub gathered_in : (old new : List Stored) (n : ℕ) (answer : Answer) → ActsAt n rooms old new (Ok answer) → GathersIn n old new (Ok (names_told answer))
gathered_in old new n answer a = (
  looked old new n rooms answer tt a,
  λ tell.
      let x = answered_of old new n rooms answer a tell in
      ap names_told (sym x.2) ∙ ap (λ l. in_byte_order (names_of l)) (sym (ap rooms_of x.1)),
)

pub gather_failed : (old new : List Stored) (n : ℕ) → ActsAt n rooms old new (Err Fault) → FailsHeld old new
gather_failed old new n a = look_failed old new n rooms tt a

-- ---- all stores

pub record HasGathered (n : ℕ) (old new : List Stored) (names : List Name) : Type 0 where
  pub same : SameHeld old new
  pub asked : FirstAnswered rooms (AreAmong names) n old new
  pub told : (name : Name) → is_listed name names ≡ true → (t : TellsName old new name) × (t.number < n)
  pub only : all_tell (held_by old) ≡ true → (name : Name) → is_listed name names ≡ true → (p : Place) × IsNamed (held_by old) name p
  pub all : all_tell (held_by old) ≡ true → (s i : ℕ) (r : Room) → s < n → slice_get (rooms_in (held_by old) s) i ≡ Some r → is_listed r.name names ≡ true

pub none_gathered : (stores : List Stored) → HasGathered 0 stores stores []
none_gathered stores = record { asked = none_answered rooms (AreAmong []) stores; told = λ name e. absurd (cc); same = record { held = refl; faults = refl }; only = λ tell name e. absurd (cc); all = λ tell s i r l e. absurd (omega arith) }

told_still : (n : ℕ) (old mid new : List Stored) (name : Name) (answer : Answer) → ActsAt n rooms mid new (Ok answer) → (t : TellsName old mid name) → (t.number ≡ n → ⊥) → (u : TellsName old new name) × (u.number ≡ t.number)
told_still n old mid new name answer a t other = (
  record {
    number = t.number;
    before = t.before;
    after = t.after;
    was = t.was;
    answered = t.answered;
    is = ap (λ xs. slice_get xs t.number) a.is ∙ slice_get_other-slice_set mid n t.number a.after other ∙ t.is;
  },
  refl,
)

told_now : (n : ℕ) (old mid new : List Stored) (name : Name) (names : List Name) (answer : Answer) → ActsAt n rooms mid new (Ok answer) → FirstAnswered rooms (AreAmong names) n old mid → is_listed name (names_told answer) ≡ true → (u : TellsName old new name) × (u.number ≡ n)
told_now n old mid new name names answer a f l = (
  record {
    number = n;
    before = a.before;
    after = a.after;
    was = sym (f.others n (omega arith)) ∙ a.was;
    is = ap (λ xs. slice_get xs n) a.is ∙ slice_get-slice_set mid n a.before a.after a.was;
    answered = record { answer = answer; fits = l; acts = a.acts };
  },
  refl,
)

pub more_gathered : (n : ℕ) (old mid new : List Stored) (names more : List Name) → HasGathered n old mid names → GathersIn n mid new (Ok more) → AsksRooms n mid new (Ok more) → HasGathered (n + 1) old new (names ++ more)
more_gathered n old mid new names more h g o =
    let are : all_tell (held_by old) ≡ true → more ≡ in_byte_order (names_of (rooms_in (held_by old) n)) = subst (λ x. all_tell x ≡ true → more ≡ in_byte_order (names_of (rooms_in x n))) h.same.held g.1 in
    let listed : all_tell (held_by old) ≡ true → (name : Name) → is_listed name more ≡ is_listed name (names_of (rooms_in (held_by old) n)) =
    λ tell name. ap (λ l. is_listed name l) (are tell) ∙ listed_in_order name (names_of (rooms_in (held_by old) n)) in
    record {
      asked = more_answered rooms (AreAmong (names ++ more)) n old mid new o.0
          (λ name l. list_any-append (λ other. same_name other name) names more ∙ or_right (is_listed name names) (is_listed name more) (ap (λ l. is_listed name l) o.1 ∙ l))
          (widened rooms (AreAmong names) (AreAmong (names ++ more)) n old mid (λ answer fits name l. list_any-append (λ other. same_name other name) names more ∙ or_left (is_listed name names) (is_listed name more) (fits name l)) h.asked) o.2;
      told = λ name e. elim (either (is_listed name names) (is_listed name more) (sym (list_any-append (λ other. same_name other name) names more) ∙ e)) as (λ _. (t : TellsName old new name) × (t.number < n + 1)) [
        | inl before ↦ let t = h.told name before in let less = t.1 in let u = told_still n old mid new name o.0 o.2 t.0 (λ at. absurd (omega (arith, less, at))) in let same = u.1 in (u.0, omega (arith, less, same))
        | inr now ↦ let u = told_now n old mid new name names o.0 o.2 h.asked (ap (λ l. is_listed name l) (sym o.1) ∙ now) in let same = u.1 in (u.0, omega (arith, same))
      ];
      same = same_then old mid new h.same g.0;
      only = λ tell name e. elim (either (is_listed name names) (is_listed name more) (sym (list_any-append (λ other. same_name other name) names more) ∙ e)) [
        | inl before ↦ h.only tell name before
        | inr now ↦
            let r = listed_room (rooms_in (held_by old) n) name (sym (listed tell name) ∙ now) in
            (record { store = n; room = r.0 }, record { room = r.1; there = r.2; named = r.3 })
      ];
      all = λ tell s i r l e. list_any-append (λ other. same_name other r.name) names more ∙ elim (nat_cases s n) as (λ _. (is_listed r.name names || is_listed r.name more) ≡ true) [
        | inl at ↦ or_right (is_listed r.name names) (is_listed r.name more) (listed tell r.name ∙ room_listed (rooms_in (held_by old) n) i r (ap (λ z. slice_get (rooms_in (held_by old) z) i) (sym at) ∙ e))
        | inr other ↦ or_left (is_listed r.name names) (is_listed r.name more) (h.all tell s i r (omega arith) e)
      ];
    }

pub all_gathered : (n : ℕ) (old new : List Stored) (names : List Name) → length old ≤ n → HasGathered n old new names → Gathers old new (Ok names)
all_gathered n old new names long h = (
  h.same,
  λ tell. record {
    only = h.only tell;
    all = λ p r e.
        let l = store_within (held_by old) p.store p.room r e in
        let k = length_map (λ (s : Stored). s.tree) old in
        h.all tell p.store p.room r (omega (arith, l, k, long)) e;
  },
)

pub asked_rooms : (n : ℕ) (old new : List Stored) (names : List Name) → length old ≤ n → HasGathered n old new names → AsksAllRooms old new (Ok names)
asked_rooms n old new names long h = (all_answered rooms (AreAmong names) n old new long h.asked, λ name e. (h.told name e).0)

pub asked_until : (n : ℕ) (old mid new : List Stored) (names : List Name) → HasGathered n old mid names → ActsAt n rooms mid new (Err Fault) → AsksAllRooms old new (Err Fault)
asked_until n old mid new names h a = (n, mid, widened rooms (AreAmong names) AnyAnswer n old mid (λ answer fits. tt) h.asked, a)

-- ---- the joined tree has these names

pub names_joined : (held : Held) (places : List Place) (names : List Name) → Fits held places None → AreNamesIn held names → in_byte_order (names_of (rooms_at held places)) ≡ in_byte_order names
names_joined held places names fit are = ordered_one (in_byte_order (names_of (rooms_at held places))) (in_byte_order names) (in_order (names_of (rooms_at held places))) (in_order names) (λ name.
    listed_in_order name (names_of (rooms_at held places))
    ∙ one_bool (is_listed name (names_of (rooms_at held places))) (is_listed name names)
    (λ e. let r = listed_room (rooms_at held places) name e in
    let q = room_of held places fit r.0 r.1 r.2 in
    subst (λ z. is_listed z names ≡ true) r.3 (are.all q.0 r.1 q.2))
    (λ e. let p = are.only name e in
    elim (fit.whole p.0 p.1.room p.1.there) [
      | inl at ↦ subst (λ z. is_listed z (names_of (rooms_at held places)) ≡ true) p.1.named
          (room_listed (rooms_at held places) at.0 p.1.room (get_map (λ q. or_blank (room_at held q)) places at.0 p.0 at.1 ∙ ap (λ x. Some (or_blank x)) p.1.there))
      | inr d ↦ absurd d
    ])
    ∙ sym (listed_in_order name names))

pub names_then : (old new : List Stored) (places : List Place) (names : List Name) → Gathers old new (Ok names) → IsFit (spreading old places None)
    → Performs rooms (spreading old places None) (spreading new places None) (Ok (Names (in_byte_order names)))
names_then old new places names g fit = answered_then old new places None rooms (Names (in_byte_order names)) g.0 fit (λ tell.
    ap (λ l. record { tree = joined (held_by old) places None; answer = Names l }) (names_joined (held_by old) places names (fit tell) (g.1 tell)))
