-- The rooms get their numbers, name by name.
use Rattle.std.proofs.Common.{◌≡◌, ◌⊎◌, inl, inr, ◌≤◌, ◌<◌, ◌+◌, ℕ, zero, suc, Bool, true, false, ◌||◌, List, [], ◌∷◌, ◌++◌, length, slice_get, get_or, take, Option, Some, None, refl, ap, sym, ◌∙◌, subst, arith}
use Rattle.std.specs.Prelude.{Ok, Err}
use Rattle.std.proofs.lemmas.Option.{get_or_from_slice_get}
use Rattle.store_laws.proofs.Facts.{all_listed, in_order, item, listed_in_order, name_cases, name_eq, name_other, name_refl, ordered_differ, slice_get_before, slice_get_last, slice_get_more}
use Rattle.spread_store.specs.declared.opening.SpreadTrouble.TheVariants.{Doubled}
use Rattle.spread_store.specs.Listing.{GathersIn}
use Rattle.spread_store.proofs.Lists.{length_map}
use Rattle.std.proofs.lemmas.List.Folds.{list_any-append}
use Rattle.store_api.specs.declared.tree.Room.{Room}
use Rattle.store_api.specs.Step.{Name}
use Rattle.store_api.specs.Names.{same_name, in_byte_order}
use Rattle.store_api.specs.Acts.{Stored}
use Rattle.std.specs.List.Sorted.{IsStrictlySortedBy}
use Rattle.std.proofs.lemmas.Option.{slice_get_within}
use Rattle.std.proofs.lemmas.List.{length-append}
use Rattle.store_laws.specs.Differ.{is_listed, NamesDiffer}
use Rattle.store_laws.specs.There.{AreInOrder}
use Rattle.spread_store.specs.declared.places.Place.{Place}
use Rattle.spread_store.specs.Joined.{Held, held_by, all_tell, rooms_of, rooms_in, room_at, spreading}
use Rattle.spread_store.specs.Fits.{Fits, IsFit}
use Rattle.spread_store.specs.Finding.{SameHeld, IsNamed, IsFirst}
use Rattle.spread_store.specs.Doubled.{IsDoubled, IsBelow, IsAtMost, IsLeastDoubled}
use Rattle.spread_store.specs.Numbered.{least_of, InRange, Numbered, Adds, AddsAll, NumbersOne, NumbersStore}
use Rattle.spread_store.specs.Opening.{RoomsDifferInEach, Numbers, Opens}
use Rattle.spread_store.proofs.Lesser.{at_most_trans, least_there, least_cases, least_name, least_kept, is_some_or}
use Rattle.spread_store.proofs.Held.{nat_cases, place_eq}
use Rattle.spread_store.proofs.Searching.{store_within, same_then, less_or}
use Rattle.spread_store.proofs.Added.{same_room}
use Rattle.spread_store.proofs.Gathers.{either, or_left, or_right, room_listed, listed_room, names_of}

-- in one store a name has one place
one_place : (held : Held) → RoomsDifferInEach held → (s i j : ℕ) (a b : Room) → slice_get (rooms_in held s) i ≡ Some a → slice_get (rooms_in held s) j ≡ Some b → a.name ≡ b.name → i ≡ j
one_place held alone s i j a b x y same = elim (slice_get held s) as (λ o. slice_get held s ≡ o → slice_get (rooms_of o) i ≡ Some a → slice_get (rooms_of o) j ≡ Some b → i ≡ j) [
  | None ↦ λ _ x y. absurd (cc)
  | Some told ↦ elim told as (λ t. slice_get held s ≡ Some t → slice_get (rooms_of (Some t)) i ≡ Some a → slice_get (rooms_of (Some t)) j ≡ Some b → i ≡ j) [
    | None ↦ λ _ x y. absurd (cc)
    | Some tree ↦ λ is x y. alone s tree is i j a b x y same
  ]
] refl x y

-- ---- the names so far, and one more

in_more : (n : ℕ) (done : List Name) (name : Name) (p : Place) (r : Room) → InRange n done p r → InRange n (done ++ name ∷ []) p r
in_more n done name p r (inl less) = inl less
in_more n done name p r (inr at) = inr (at.0, list_any-append (λ other. same_name other r.name) done (name ∷ []) ∙ or_left (is_listed r.name done) (same_name name r.name || false) at.1)

or_none : (b : Bool) → (b || false) ≡ true → b ≡ true
or_none true e = refl
or_none false e = e

range_cases : (n : ℕ) (done : List Name) (name : Name) (p : Place) (r : Room) → InRange n (done ++ name ∷ []) p r → InRange n done p r ⊎ ((p.store ≡ n) × (r.name ≡ name))
range_cases n done name p r (inl less) = inl (inl less)
range_cases n done name p r (inr at) = elim (either (is_listed r.name done) (same_name name r.name || false) (sym (list_any-append (λ other. same_name other r.name) done (name ∷ [])) ∙ at.1)) [
  | inl before ↦ inl (inr (at.0, before))
  | inr now ↦ inr (at.0, sym (name_eq name r.name (or_none (same_name name r.name) now)))
]

named_here : (n : ℕ) (done : List Name) (name : Name) (p : Place) (r : Room) → p.store ≡ n → r.name ≡ name → InRange n (done ++ name ∷ []) p r
named_here n done name p r at is = inr (
  at,
  list_any-append (λ other. same_name other r.name) done (name ∷ [])
      ∙ or_right (is_listed r.name done) (same_name name r.name || false) (or_left (same_name name r.name) false (subst (λ z. same_name name z ≡ true) (sym is) (name_refl name))),
)

module _ (held : Held) (n : ℕ) (name : Name) (done : List Name) (places : List Place) (doubled : Option Name) (alone : RoomsDifferInEach held) (fresh : is_listed name done ≡ false)
    (p : Place) (f : IsNamed held name p) (first : IsFirst held name p.store) (before : Numbered held n done places doubled) where
  one_there : p.store ≡ n → (q : Place) (r : Room) → room_at held q ≡ Some r → q.store ≡ n → r.name ≡ name → q ≡ p
  one_there at q r e on is =
      let here : slice_get (rooms_in held n) q.room ≡ Some r = ap (λ s. slice_get (rooms_in held s) q.room) (sym on) ∙ e in
      let there : slice_get (rooms_in held n) p.room ≡ Some f.room = ap (λ s. slice_get (rooms_in held s) p.room) (sym at) ∙ f.there in
      place_eq q p (on ∙ sym at) (one_place held alone n q.room p.room r f.room here there (is ∙ sym f.named))

  not_yet : p.store ≡ n → (k : ℕ) → slice_get places k ≡ Some p → ⊥
  not_yet at k e =
      let x = before.placed k p e in
      let same = same_room (room_at held p) x.0 f.room x.1 f.there in
      elim x.2 as (λ _. ⊥) [
        | inl less ↦ absurd (omega (arith, less, at))
        | inr listed ↦ let l : is_listed name done ≡ true = subst (λ z. is_listed z done ≡ true) (ap (λ (w : Room). w.name) same ∙ f.named) listed.1 in absurd (cc)
      ]

  is_last : (k : ℕ) (q : Place) → slice_get (places ++ p ∷ []) k ≡ Some q → ((k ≡ length places) × (q ≡ p)) ⊎ (slice_get places k ≡ Some q)
  is_last k q e = let m = slice_get_more places k q p e in elim (nat_cases k (length places)) [ inl at ↦ inl (at, m.0 at) | inr other ↦ inr (m.1 other) ]

  pub adds_here : p.store ≡ n → ((other : Name) → is_listed other done ≡ true → IsBelow other name) → Numbered held n (done ++ name ∷ []) (places ++ p ∷ []) doubled
  adds_here at below = record {
    ordered = λ j k q w a b less e g x y. elim (is_last j q e) [
      | inl l ↦ let long = slice_get_within (places ++ p ∷ []) k w g in let first_last = l.0 in let size = length-append places (p ∷ []) in absurd (omega (arith, less, long, first_last, size))
      | inr was ↦ elim (is_last k w g) [
        | inr too ↦ before.ordered j k q w a b less was too x y
        | inl m ↦ let known = before.placed j q was in let same = same_room (room_at held q) known.0 a known.1 x in
            let on : w.store ≡ n = ap (λ (z : Place). z.store) m.1 ∙ at in
            let called : b.name ≡ name = ap (λ (z : Room). z.name) (same_room (room_at held p) b f.room (ap (λ z. room_at held z) (sym m.1) ∙ y) f.there) ∙ f.named in
            elim known.2 as (λ _. (q.store < w.store) ⊎ ((q.store ≡ w.store) × IsBelow a.name b.name)) [
              | inl lower ↦ inl (omega (arith, lower, on))
              | inr listed ↦ inr (listed.0 ∙ sym on, subst (λ z. IsBelow a.name z) (sym called) (below a.name (subst (λ (z : Room). is_listed z.name done ≡ true) same listed.1)))
            ]
      ]
    ];
    least = λ kept e q o r x range at_o lower. elim (range_cases n done name q r range) [
      | inl was ↦ before.least kept e q o r x was at_o lower
      | inr now ↦ let l = first o at_o.room at_o.there (at_o.named ∙ now.1) in let on = now.0 in absurd (omega (arith, l, on, at, lower))
    ];
    placed = λ k q e. elim (is_last k q e) [
      | inl l ↦ (f.room, ap (λ z. room_at held z) l.1 ∙ f.there, named_here n done name q f.room (ap (λ (z : Place). z.store) l.1 ∙ at) f.named)
      | inr was ↦ let x = before.placed k q was in (x.0, x.1, in_more n done name q x.0 x.2)
    ];
    apart = λ j k q e g. elim (is_last j q e) [
      | inl l ↦ elim (is_last k q g) [
        | inl m ↦ l.0 ∙ sym m.0
        | inr was ↦ absurd (not_yet at k (was ∙ ap (λ z. Some z) l.1))
      ]
      | inr was ↦ elim (is_last k q g) [
        | inl m ↦ absurd (not_yet at j (was ∙ ap (λ z. Some z) m.1))
        | inr too ↦ before.apart j k q was too
      ]
    ];
    whole = λ none q r e range. elim (range_cases n done name q r range) [
      | inl was ↦ let x = before.whole none q r e was in (x.0, slice_get_before places x.0 q p x.1)
      | inr now ↦ (length places, slice_get_last places p ∙ ap (λ z. Some z) (sym (one_there at q r e now.0 now.1)))
    ];
    lone = λ none q r e range. elim (range_cases n done name q r range) [
      | inl was ↦ before.lone none q r e was
      | inr now ↦ subst (λ z. IsFirst held z q.store) (sym now.1) (subst (λ s. IsFirst held name s) (at ∙ sym now.0) first)
    ];
    twice = before.twice;
  }

  pub adds_elsewhere : (p.store ≡ n → ⊥) → (i : ℕ) → IsNamed held name (record { store = n; room = i }) → Numbered held n (done ++ name ∷ []) places (least_of doubled name)
  adds_elsewhere other i here = record {
    placed = λ k q e. let x = before.placed k q e in (x.0, x.1, in_more n done name q x.0 x.2);
    apart = before.apart;
    ordered = before.ordered;
    whole = λ none q r e range. absurd (least_there doubled name none);
    lone = λ none q r e range. absurd (least_there doubled name none);
    twice = λ which e. elim (least_cases doubled name which e) [
      | inl was ↦ before.twice which was
      | inr is ↦ subst (λ z. IsDoubled held z) is (record { one = p; other = record { store = n; room = i }; first = f; second = here; two = other })
    ];
    least = λ which e q o r x range at_o lower. elim (range_cases n done name q r range) [
      | inr now ↦ subst (λ z. IsAtMost which z) (sym now.1) (least_name doubled name which e)
      | inl was ↦ elim (is_some_or doubled) [
        | inl kept ↦ at_most_trans which kept.0 r.name (least_kept doubled name which kept.0 kept.1 e) (before.least kept.0 kept.1 q o r x was at_o lower)
        | inr none ↦ absurd (let l = before.lone none q r x was o at_o.room at_o.there at_o.named in omega (arith, l, lower))
      ]
    ];
  }

-- ---- the next store

pub next_store : (held : Held) (n : ℕ) (names : List Name) (places : List Place) (doubled : Option Name) → names ≡ in_byte_order (names_of (rooms_in held n)) → Numbered held n names places doubled → Numbered held (n + 1) [] places doubled
next_store held n names places doubled are b = record {
  placed = λ k p e. let x = b.placed k p e in (x.0, x.1, elim x.2 [ inl less ↦ inl (omega (arith, less)) | inr at ↦ let s = at.0 in inl (omega (arith, s)) ]);
  apart = b.apart;
  whole = λ none p r e range. b.whole none p r e (back p r e range);
  lone = λ none p r e range. b.lone none p r e (back p r e range);
  ordered = b.ordered;
  twice = b.twice;
  least = λ which is p q r e range. b.least which is p q r e (back p r e range);
}
  where
    back : (p : Place) (r : Room) → room_at held p ≡ Some r → InRange (n + 1) [] p r → InRange n names p r
    back p r e (inl less) = elim (nat_cases p.store n) as (λ _. InRange n names p r) [
      | inl at ↦ inr (at, ap (λ l. is_listed r.name l) are ∙ listed_in_order r.name (names_of (rooms_in held n)) ∙ room_listed (rooms_in held n) p.room r (ap (λ s. slice_get (rooms_in held s) p.room) (sym at) ∙ e))
      | inr apart ↦ inl (omega (arith, less, apart))
    ]
    back p r e (inr at) = absurd (let bad = at.1 in cc)

pub first_store : (held : Held) → Numbered held 0 [] [] None
first_store held = record {
  placed = λ k p e. absurd (cc);
  apart = λ j k p e f. absurd (cc);
  whole = λ none p r e range. absurd (nothing p r range);
  lone = λ none p r e range. absurd (nothing p r range);
  ordered = λ j k p q a b less e. absurd (cc);
  twice = λ name e. absurd (cc);
  least = λ name e. absurd (cc);
}
  where
    nothing : (p : Place) (r : Room) → InRange 0 [] p r → ⊥
    nothing p r (inl less) = absurd (omega arith)
    nothing p r (inr at) = absurd (let bad = at.1 in cc)

pub all_stores : (held : Held) (n : ℕ) (places : List Place) → length held ≤ n → RoomsDifferInEach held → Numbered held n [] places None → Fits held places None
all_stores held n places long alone b = record {
  placed = λ k p e. let x = b.placed k p e in (x.0, x.1);
  apart = b.apart;
  whole = λ p r e. inl (b.whole refl p r e (all p r e));
  sure = λ k p r at e d. d;
  named = λ p q a c e f same.
      let le = b.lone refl p a e (all p a e) q c f (sym same) in
      let ge = b.lone refl q c f (all q c f) p a e same in
      let at : p.store ≡ q.store = omega (arith, le, ge) in
      place_eq p q at (one_place held alone q.store p.room q.room a c (ap (λ s. slice_get (rooms_in held s) p.room) (sym at) ∙ e) f same);
}
  where
    all : (p : Place) (r : Room) → room_at held p ≡ Some r → InRange n [] p r
    all p r e = let l = store_within held p.store p.room r e in inl (omega (arith, l, long))

-- a room of a store that is there has had its turn
all_range : (held : Held) (n : ℕ) → length held ≤ n → (p : Place) (r : Room) → room_at held p ≡ Some r → InRange n [] p r
all_range held n long p r e = let l = store_within held p.store p.room r e in inl (omega (arith, l, long))

pub least_doubled : (held : Held) (n : ℕ) (places : List Place) (name : Name) → length held ≤ n → Numbered held n [] places (Some name) → IsLeastDoubled held name
least_doubled held n places name long b = record {
  doubled = b.twice name refl;
  least = λ other d. elim (less_or d.one.store d.other.store) as (λ _. IsAtMost name other) [
    | inl lower ↦ subst (λ z. IsAtMost name z) d.second.named
        (b.least name refl d.other d.one d.second.room d.second.there (all_range held n long d.other d.second.room d.second.there)
        (record { room = d.first.room; there = d.first.there; named = d.first.named ∙ sym d.second.named }) lower)
    | inr upper ↦ let two : d.other.store ≡ d.one.store → ⊥ = λ e. d.two (sym e) in subst (λ z. IsAtMost name z) d.first.named
        (b.least name refl d.one d.other d.first.room d.first.there (all_range held n long d.one d.first.room d.first.there)
        (record { room = d.second.room; there = d.second.there; named = d.second.named ∙ sym d.first.named }) (omega (arith, upper, two)))
  ];
}

-- ---- name by name

listed_at : (names : List Name) (i : ℕ) (x : Name) → slice_get names i ≡ Some x → is_listed x names ≡ true
listed_at [] i x e = absurd (cc)
listed_at (y ∷ ys) zero x e = let same : y ≡ x = cc in or_left (same_name y x) (is_listed x ys) (subst (λ z. same_name z x ≡ true) (sym same) (name_refl x))
listed_at (y ∷ ys) (suc i) x e = or_right (same_name y x) (is_listed x ys) (listed_at ys i x e)

fresh_at : (names : List Name) (i : ℕ) (x : Name) → NamesDiffer names → slice_get names i ≡ Some x → is_listed x (take i names) ≡ false
fresh_at [] i x d e = absurd (cc)
fresh_at (y ∷ ys) zero x d e = refl
fresh_at (y ∷ ys) (suc i) x d e = elim (name_cases y x) as (λ _. (same_name y x || is_listed x (take i ys)) ≡ false) [
  | inl same ↦ let l : is_listed y ys ≡ true = subst (λ z. is_listed z ys ≡ true) (sym same) (listed_at ys i x e) in let f = d.0 in absurd (cc)
  | inr apart ↦ rw (name_other y x apart) (fresh_at ys i x d.1 e)
]

below_at : (names : List Name) (i : ℕ) (x : Name) → AreInOrder names → slice_get names i ≡ Some x → (other : Name) → is_listed other (take i names) ≡ true → IsBelow other x
unfolding IsStrictlySortedBy
below_at [] i x o e other l = absurd (cc)
below_at (y ∷ ys) zero x o e other l = absurd (cc)
below_at (y ∷ ys) (suc i) x o e other l = elim (either (same_name y other) (is_listed other (take i ys)) l) as (λ _. IsBelow other x) [
  | inl is ↦ subst (λ z. IsBelow z x) (name_eq y other is) (all_listed (λ z. IsBelow y z) ys x o.0 (listed_at ys i x e))
  | inr later ↦ below_at ys i x o.1 e other later
]

take_next : (names : List Name) (i : ℕ) (x : Name) → slice_get names i ≡ Some x → take (suc i) names ≡ take i names ++ x ∷ []
take_next [] i x e = absurd (cc)
take_next (y ∷ ys) zero x e = let same : y ≡ x = cc in ap (λ z. z ∷ []) same
take_next (y ∷ ys) (suc i) x e = ap (λ l. y ∷ l) (take_next ys i x e)

take_all : (names : List Name) (i : ℕ) → length names ≤ i → take i names ≡ names
take_all [] zero l = refl
take_all [] (suc i) l = refl
take_all (y ∷ ys) zero l = absurd (omega arith)
take_all (y ∷ ys) (suc i) l = ap (λ z. y ∷ z) (take_all ys i (omega arith))

pub record HasNumbered (store : ℕ) (names : List Name) (m : ℕ) (old new : List Stored) (places more : List Place) (doubled next : Option Name) : Type 0 where
  pub same : SameHeld old new
  pub adds : all_tell (held_by old) ≡ true → RoomsDifferInEach (held_by old) → AreInOrder names → ((name : Name) → is_listed name names ≡ true → (i : ℕ) × IsNamed (held_by old) name (record { store = store; room = i }))
      → Numbered (held_by old) store [] places doubled → Numbered (held_by old) store (take m names) more next

pub more_numbered : (store : ℕ) (names : List Name) (m : ℕ) (x : Name) (old mid new : List Stored) (places more most : List Place) (doubled next last : Option Name)
    → HasNumbered store names m old mid places more doubled next → slice_get names m ≡ Some x → NumbersOne store x mid new more most next (Ok last)
    → HasNumbered store names (m + 1) old new places most doubled last
more_numbered store names m x old mid new places more most doubled next last h at o = record {
  same = same_then old mid new h.same o.0;
  adds = λ tell alone order are b.
      let step : all_tell (held_by old) ≡ true → Adds store x (held_by old) more most next last = subst (λ w. all_tell w ≡ true → Adds store x w more most next last) h.same.held o.1 in
      let e : m + 1 ≡ suc m = omega arith in
      subst (λ l. Numbered (held_by old) store l most last) (sym (ap (λ k. take k names) e ∙ take_next names m x at))
      (step tell (take m names) alone (fresh_at names m x (ordered_differ names order) at) (below_at names m x order at) (are x (listed_at names m x at)) (h.adds tell alone order are b));
}

pub all_numbered : (store : ℕ) (names : List Name) (m : ℕ) (old new : List Stored) (places more : List Place) (doubled next : Option Name) → length names ≤ m
    → HasNumbered store names m old new places more doubled next → NumbersStore store names old new places more doubled (Ok next)
all_numbered store names m old new places more doubled next long h =
    (h.same, λ tell alone order are b. subst (λ l. Numbered (held_by old) store l more next) (take_all names m long) (h.adds tell alone order are b))

pub item_at : (names : List Name) (i : ℕ) (x : Name) → i < length names → x ≡ get_or names i x → slice_get names i ≡ Some x
item_at names i x l e = let y = item names i l in y.1 ∙ ap (λ z. Some z) (sym (e ∙ get_or_from_slice_get names i y.0 x y.1))

-- ---- store by store

pub record HasAll (n : ℕ) (old new : List Stored) (places : List Place) (doubled : Option Name) : Type 0 where
  pub same : SameHeld old new
  pub numbered : all_tell (held_by old) ≡ true → RoomsDifferInEach (held_by old) → Numbered (held_by old) n [] places doubled

pub none_all : (stores : List Stored) → HasAll 0 stores stores [] None
none_all stores = record { same = record { held = refl; faults = refl }; numbered = λ tell alone. first_store (held_by stores) }

pub more_all : (n : ℕ) (names : List Name) (old mid late new : List Stored) (places more : List Place) (doubled next : Option Name)
    → HasAll n old mid places doubled → GathersIn n mid late (Ok names) → NumbersStore n names late new places more doubled (Ok next) → HasAll (n + 1) old new more next
more_all n names old mid late new places more doubled next h g s =
    let held = held_by old in
    let to_late : SameHeld old late = same_then old mid late h.same g.0 in
    let are : all_tell held ≡ true → names ≡ in_byte_order (names_of (rooms_in held n)) = subst (λ w. all_tell w ≡ true → names ≡ in_byte_order (names_of (rooms_in w n))) h.same.held g.1 in
    let adds : all_tell held ≡ true → AddsAll n names held places more doubled next = subst (λ w. all_tell w ≡ true → AddsAll n names w places more doubled next) to_late.held s.1 in
    record {
      same = same_then old late new to_late s.0;
      numbered = λ tell alone.
          next_store held n names more next (are tell)
          (adds tell alone
          (subst (λ l. AreInOrder l) (sym (are tell)) (in_order (names_of (rooms_in held n))))
          (λ name e.
          let r = listed_room (rooms_in held n) name (sym (listed_in_order name (names_of (rooms_in held n))) ∙ ap (λ l. is_listed name l) (sym (are tell)) ∙ e) in
          (r.0, record { room = r.1; there = r.2; named = r.3 }))
          (h.numbered tell alone));
    }

pub all_fit : (n : ℕ) (old new : List Stored) (places : List Place) → length old ≤ n → HasAll n old new places None → Numbers old new (Ok places)
all_fit n old new places long h = (
  h.same,
  λ tell alone.
      let k = length_map (λ (s : Stored). s.tree) old in
      (all_stores (held_by old) n places (omega (arith, k, long)) alone (h.numbered tell alone), (h.numbered tell alone).ordered),
)

pub all_doubled : (n : ℕ) (old new : List Stored) (places : List Place) (name : Name) → length old ≤ n → HasAll n old new places (Some name) → Numbers old new (Err (Doubled name))
all_doubled n old new places name long h = (
  h.same,
  λ tell alone.
      let k = length_map (λ (s : Stored). s.tree) old in
      least_doubled (held_by old) n places name (omega (arith, k, long)) (h.numbered tell alone),
)

-- ---- they are opened

pub undoubled : (held : Held) (places : List Place) → Fits held places None → (name : Name) → IsDoubled held name → ⊥
undoubled held places fit name d = d.two (ap (λ (p : Place). p.store) (fit.named d.one d.other d.first.room d.second.room d.first.there d.second.there (d.first.named ∙ sym d.second.named)))

pub opened : (old new : List Stored) (places : List Place) → (all_tell (held_by old) ≡ true → RoomsDifferInEach (held_by old)) → Numbers old new (Ok places)
    → Opens old (record { stores = new; places = places; doubt = None; acts = 0; last = 0 })
opened old new places apart n = record {
  same = n.0;
  sure = refl;
  acts = refl;
  last = refl;
  fits = λ tell. (n.1 tell (apart tell)).0;
  ordered = λ tell. (n.1 tell (apart tell)).1;
  undoubled = λ tell. undoubled (held_by old) places (n.1 tell (apart tell)).0;
}

pub opened_fit : (old new : List Stored) (places : List Place) → (all_tell (held_by old) ≡ true → RoomsDifferInEach (held_by old)) → Numbers old new (Ok places) → IsFit (spreading new places None)
opened_fit old new places apart n = subst (λ h. all_tell h ≡ true → Fits h places None) (sym n.0.held) (λ tell. (n.1 tell (apart tell)).0)
