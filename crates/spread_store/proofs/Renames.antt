-- A room is found by its name, or gets another.
use Rattle.std.proofs.Common.{◌≡◌, ◌⊎◌, inl, inr, ◌≤◌, ℕ, true, false, Bool, nat_eq, ◌&&◌, List, slice_get, Option, Some, None, refl, ap, sym, ◌∙◌, subst, arith}
use Rattle.std.specs.Prelude.{Result, Ok, Err}
use Rattle.std.proofs.lemmas.Bool.Decides.{nat_tests}
use Rattle.std.proofs.lemmas.List.Quantifiers.{position-Some}
use Rattle.std.proofs.lemmas.Option.{get_or_from_slice_get}
use Rattle.plfs_types.specs.Counts.{HasRisen}
use Rattle.store_api.specs.declared.tree.Room.{Room}
use Rattle.store_api.specs.declared.tree.Tree.{Tree}
use Rattle.store_api.specs.declared.step.Answer.{Answer}
use Rattle.store_api.specs.declared.step.Answer.TheVariants.{Absent, TargetThere}
use Rattle.store_api.specs.declared.store.Trouble.{Trouble}
use Rattle.store_api.specs.declared.store.Trouble.TheVariants.{Fault, NoMemory}
use Rattle.store_api.specs.Names.{same_name}
use Rattle.store_api.specs.Step.{Step, Name, find_room, rename_room}
use Rattle.store_api.specs.Effect.{Effect, effect, tree_after, number_of, number_or_absent, renamed, or_no_room, room_after}
use Rattle.store_api.specs.Leaves.{MayLeave, not_made, whole, in_part}
use Rattle.store_api.specs.Acts.{Stored, Goes}
use Rattle.store_laws.proofs.Facts.{find_unplaced, item, name_other, none_at, none_found, slice_set_same}
use Rattle.spread_store.specs.declared.places.Place.{Place}
use Rattle.spread_store.specs.declared.places.Doubt.{Doubt}
use Rattle.spread_store.specs.Asking.{ActsAt}
use Rattle.spread_store.specs.Joined.{Held, held_by, all_tell, rooms_of, room_at, or_blank, rooms_at, faults_of, joined, Spreading, spreading, tree_of}
use Rattle.spread_store.specs.Fits.{Fits, IsFit}
use Rattle.spread_store.specs.Finding.{SameHeld, FailsHeld, IsNamed, IsFreeIn, Finds}
use Rattle.spread_store.specs.Numbering.{is_place, place_number}
use Rattle.spread_store.specs.Performs.{Performs, Stays}
use Rattle.spread_store.proofs.Lists.{get_map}
use Rattle.spread_store.proofs.Held.{with_tree, with_room, one_room, place_eq, nat_cases, room_was, room_now, room_other}
use Rattle.spread_store.proofs.Going.{faults_same, faults_more, faults_risen, goes_cond, tree_goes, fit_goes}
use Rattle.spread_store.proofs.Within.{found_there, stayed}
use Rattle.spread_store.proofs.Doubts.{held_tree, held_fit, same_stays}
use Rattle.spread_store.proofs.Naming.{position_none, free_number, named_number}

-- ---- the number of a place

is_eq : (place p : Place) → is_place place p ≡ true → p ≡ place
is_eq place p e = place_eq p place (store_eq (nat_eq p.store place.store) (nat_eq p.room place.room) refl refl e) (room_eq (nat_eq p.store place.store) (nat_eq p.room place.room) refl refl e)
  where
    store_eq : (a b : Bool) → nat_eq p.store place.store ≡ a → nat_eq p.room place.room ≡ b → (a && b) ≡ true → p.store ≡ place.store
    store_eq true b f g h = grind (arith, nat_tests)
    store_eq false b f g h = absurd (cc)

    room_eq : (a b : Bool) → nat_eq p.store place.store ≡ a → nat_eq p.room place.room ≡ b → (a && b) ≡ true → p.room ≡ place.room
    room_eq true true f g h = grind (arith, nat_tests)
    room_eq true false f g h = absurd (cc)
    room_eq false b f g h = absurd (cc)

eq_is : (place p : Place) → p ≡ place → is_place place p ≡ true
eq_is place p e = subst (λ q. is_place place q ≡ true) (sym e) (both (same_nat place.store) (same_nat place.room))
  where
    same_nat : (n : ℕ) → nat_eq n n ≡ true
    same_nat n = grind (arith, nat_tests)

    both : {a b : Bool} → a ≡ true → b ≡ true → (a && b) ≡ true
    both {a} {b} f g = rw (f, g) refl

pub number_there : (places : List Place) (p : Place) (k : ℕ) → place_number places p ≡ Some k → slice_get places k ≡ Some p
number_there places p k e =
    let facts = position-Some (is_place p) places k p e in
    let q = item places k facts.0 in
    q.1 ∙ ap (λ z. Some z) (is_eq p q.0 (subst (λ z. is_place p z ≡ true) (get_or_from_slice_get places k q.0 p q.1) facts.1))

pub number_lacks : (places : List Place) (p : Place) (k : ℕ) → place_number places p ≡ None → slice_get places k ≡ Some p → ⊥
number_lacks places p k e at =
    let none = none_at (is_place p) places k p (none_found (is_place p) places (find_unplaced (is_place p) places e)) at in
    let yes_place = eq_is p p refl in
    absurd (cc)

-- ---- it is found

-- after a search that leaves what is held, an answer that leaves the tree
pub answered_then : (old new : List Stored) (places : List Place) (doubt : Option Doubt) (step : Step) (answer : Answer) → SameHeld old new → IsFit (spreading old places doubt)
    → (all_tell (held_by old) ≡ true → effect (joined (held_by old) places doubt) step ≡ record { tree = joined (held_by old) places doubt; answer = answer })
    → Performs step (spreading old places doubt) (spreading new places doubt) (Ok answer)
answered_then old new places doubt step answer same fit h = record {
  tree = subst (λ t. Goes (λ x y. effect x step ≡ record { tree = y; answer = answer }) (tree_of (spreading old places doubt)) t) (sym (held_tree old new places doubt same.held))
      (goes_cond (λ x y. effect x step ≡ record { tree = y; answer = answer }) (all_tell (held_by old)) (all_tell (held_by old)) (joined (held_by old) places doubt) (joined (held_by old) places doubt) refl h);
  faults = same.faults;
  fit = held_fit old new places doubt same.held fit;
}

pub failed_then : (old new : List Stored) (places : List Place) (doubt : Option Doubt) (step : Step) → FailsHeld old new → IsFit (spreading old places doubt)
    → Performs step (spreading old places doubt) (spreading new places doubt) (Err Fault)
failed_then old new places doubt step f fit = record {
  tree = subst (λ t. Goes (λ x y. MayLeave x step y) (tree_of (spreading old places doubt)) t) (sym (held_tree old new places doubt f.held))
      (goes_cond (λ x y. MayLeave x step y) (all_tell (held_by old)) (all_tell (held_by old)) (joined (held_by old) places doubt) (joined (held_by old) places doubt) refl (λ tell. not_made refl));
  faults = f.faults;
  cause = f.cause;
  fit = held_fit old new places doubt f.held fit;
}

pub absent_then : (old new : List Stored) (places : List Place) (name : Name) → Finds name old new (Ok None) → IsFit (spreading old places None)
    → Performs (find_room name) (spreading old places None) (spreading new places None) (Ok Absent)
absent_then old new places name f fit = answered_then old new places None (find_room name) Absent f.0 fit
    (λ tell. ap (λ o. record { tree = joined (held_by old) places None; answer = number_or_absent o }) (free_number (held_by old) places name (fit tell) (f.1 tell)))

-- the place that was found has a number
pub number_known : (held : Held) (places : List Place) (name : Name) (p : Place) → Fits held places None → IsNamed held name p → number_of (joined held places None) name ≡ place_number places p
number_known held places name p fit f = by_number (place_number places p) refl
  where
    by_number : (o : Option ℕ) → place_number places p ≡ o → number_of (joined held places None) name ≡ o
    by_number None e = elim (fit.whole p f.room f.there) [ inl at ↦ absurd (number_lacks places p at.0 e at.1) | inr doubt ↦ absurd doubt ]
    by_number (Some k) e = named_number held places name p k fit f (number_there places p k e)

pub found_then : (old new : List Stored) (places : List Place) (name : Name) (p : Place) → Finds name old new (Ok (Some p)) → IsFit (spreading old places None)
    → Performs (find_room name) (spreading old places None) (spreading new places None) (Ok (number_or_absent (place_number places p)))
found_then old new places name p f fit = answered_then old new places None (find_room name) (number_or_absent (place_number places p)) f.0 fit
    (λ tell. ap (λ o. record { tree = joined (held_by old) places None; answer = number_or_absent o }) (number_known (held_by old) places name p (fit tell) (f.1 tell)))

-- ---- it gets another name

pub place_cases : (p q : Place) → (p ≡ q) ⊎ (p ≡ q → ⊥)
place_cases p q = elim (nat_cases p.store q.store) [
  | inl e ↦ elim (nat_cases p.room q.room) [
    | inl f ↦ inl (place_eq p q e f)
    | inr apart ↦ inr (λ same. apart (ap (λ (x : Place). x.room) same))
  ]
  | inr apart ↦ inr (λ same. apart (ap (λ (x : Place). x.store) same))
]

module _ (held : Held) (places : List Place) (k : ℕ) (p : Place) (at : slice_get places k ≡ Some p) (fit : Fits held places None) (to : Name) (free : IsFreeIn held to) (t : Tree) (there : slice_get held p.store ≡ Some (Some t)) where
  abbrev renames : Tree → Answer → Step → Type 0
  renames new answer step = (effect (joined held places None) step ≡ record { tree = joined (with_tree held p.store new) places None; answer = answer }) × Fits (with_tree held p.store new) places None

  free_there : number_of t to ≡ None
  free_there = position_none (λ (r : Room). same_name r.name to) t.rooms (λ j y e. name_other y.name to (free (record { store = p.store; room = j }) y (ap (λ x. slice_get (rooms_of x) j) there ∙ e)))

  fits_renamed : (r : Room) → slice_get t.rooms p.room ≡ Some r → (new : Room) → new.name ≡ to → Fits (with_tree held p.store (with_room t p.room new)) places None
  fits_renamed r found new is =
      let now = room_now held p t r there found new in
      let other = room_other held p t r there found new in
      let was = room_was held p t r there found new in
      record {
        placed = λ j q e. elim (place_cases q p) [
          | inl same ↦ (new, ap (λ z. room_at (with_tree held p.store (with_room t p.room new)) z) same ∙ now)
          | inr apart ↦ let x = fit.placed j q e in (x.0, other q apart ∙ x.1)
        ];
        apart = fit.apart;
        whole = λ q s e. elim (place_cases q p) [
          | inl same ↦ inl (k, at ∙ ap (λ z. Some z) (sym same))
          | inr apart ↦ fit.whole q s (sym (other q apart) ∙ e)
        ];
        sure = λ j q s e f d. d;
        named = λ q s a b e f same. elim (place_cases q p) [
          | inl one ↦ elim (place_cases s p) [
            | inl two ↦ one ∙ sym two
            | inr apart ↦ absurd (free s b (sym (other s apart) ∙ f) (sym same ∙ named_now q a one e))
          ]
          | inr apart ↦ elim (place_cases s p) [
            | inl two ↦ absurd (free q a (sym (other q apart) ∙ e) (same ∙ named_now s b two f))
            | inr too ↦ fit.named q s a b (sym (other q apart) ∙ e) (sym (other s too) ∙ f) same
          ]
        ];
      }
    where
      named_now : (q : Place) (a : Room) → q ≡ p → room_at (with_tree held p.store (with_room t p.room new)) q ≡ Some a → a.name ≡ to
      named_now q a one e =
          let both : Some a ≡ Some new = sym e ∙ ap (λ z. room_at (with_tree held p.store (with_room t p.room new)) z) one ∙ room_now held p t r there found new in
          let same : a ≡ new = cc in ap (λ (x : Room). x.name) same ∙ is

  exactly_renamed : (new : Tree) (answer : Answer) → effect t (rename_room p.room to) ≡ record { tree = new; answer = answer } → renames new answer (rename_room k to)
  exactly_renamed new answer e =
      let room = fit.placed k p at in
      let found = found_there held p t room.0 there room.1 in
      let J = joined held places None in
      let same : renamed room.0 to (number_of t to) ≡ renamed room.0 to (number_of J to) = ap (λ o. renamed room.0 to o) (free_there ∙ sym (free_number held places to fit free)) in
      let one = one_room held places k p t room.0 at fit there found (λ r. renamed r to (number_of t to)) (λ r. renamed r to (number_of J to)) new answer same e in
      let is : (renamed room.0 to (number_of J to)).room.name ≡ to = ap (λ o. (renamed room.0 to o).room.name) (free_number held places to fit free) in
      (one.1, subst (λ w. Fits (with_tree held p.store w) places None) (sym one.0) (fits_renamed room.0 found (renamed room.0 to (number_of J to)).room is))

  whole_renamed : (new : Tree) → new ≡ tree_after t (rename_room p.room to)
      → MayLeave (joined held places None) (rename_room k to) (joined (with_tree held p.store new) places None) × Fits (with_tree held p.store new) places None
  whole_renamed new e =
      let m = exactly_renamed new (effect t (rename_room p.room to)).answer (λ i. record { tree = sym e i; answer = (effect t (rename_room p.room to)).answer }) in
      (whole (sym (ap (λ (x : Effect). x.tree) m.0)), m.1)

  partly_renamed : (new : Tree) → MayLeave t (rename_room p.room to) new
      → MayLeave (joined held places None) (rename_room k to) (joined (with_tree held p.store new) places None) × Fits (with_tree held p.store new) places None
  partly_renamed new (not_made e) =
      let same : held ≡ with_tree held p.store new = sym (slice_set_same held p.store (Some t) there) ∙ ap (λ w. with_tree held p.store w) (sym e) in
      (not_made (ap (λ h. joined h places None) (sym same)), subst (λ h. Fits h places None) same fit)
  partly_renamed new (whole e) = whole_renamed new e
  partly_renamed new (in_part j made e) = whole_renamed new e

renames_on : (old new : List Stored) (places : List Place) (k : ℕ) (p : Place) (to : Name) (told : Result Answer Trouble) → slice_get places k ≡ Some p
    → IsFit (spreading old places None) → (all_tell (held_by old) ≡ true → IsFreeIn (held_by old) to) → ActsAt p.store (rename_room p.room to) old new told
    → Performs (rename_room k to) (spreading old places None) (spreading new places None) told
renames_on old new places k p to (Ok answer) at fit free a =
    let R : Tree → Tree → Type 0 = λ x y. effect x (rename_room p.room to) ≡ record { tree = y; answer = answer } in
    let Q : Tree → Tree → Type 0 = λ x y. effect x (rename_room k to) ≡ record { tree = y; answer = answer } in
    let so = λ (t after : Tree) (tell : all_tell (held_by old) ≡ true) (there : slice_get (held_by old) p.store ≡ Some (Some t)) (r : R t after). exactly_renamed (held_by old) places k p at (fit tell) to (free tell) t there after answer r in
    subst (λ l. Performs (rename_room k to) (spreading old places None) (spreading l places None) (Ok answer)) (sym a.is) (record {
      tree = tree_goes old p.store a.before a.after places places None None R Q a.was a.acts.tree so;
      faults = faults_same old p.store a.before a.after a.was a.acts.faults;
      fit = fit_goes old p.store a.before a.after places places None None R Q a.was a.acts.tree so;
    })
renames_on old new places k p to (Err Fault) at fit free a =
    let R : Tree → Tree → Type 0 = λ x y. MayLeave x (rename_room p.room to) y in
    let Q : Tree → Tree → Type 0 = λ x y. MayLeave x (rename_room k to) y in
    let so = λ (t after : Tree) (tell : all_tell (held_by old) ≡ true) (there : slice_get (held_by old) p.store ≡ Some (Some t)) (r : R t after). partly_renamed (held_by old) places k p at (fit tell) to (free tell) t there after r in
    subst (λ l. Performs (rename_room k to) (spreading old places None) (spreading l places None) (Err Fault)) (sym a.is) (record {
      tree = tree_goes old p.store a.before a.after places places None None R Q a.was a.acts.tree so;
      faults = faults_more old p.store a.before a.after a.was a.acts.faults;
      cause = faults_risen old p.store a.before a.after a.was a.acts.cause;
      fit = fit_goes old p.store a.before a.after places places None None R Q a.was a.acts.tree so;
    })
renames_on old new places k p to (Err NoMemory) at fit free a = stayed old new places None a fit

-- ---- one thing after another

pub stays_then : (step : Step) (old mid new : Spreading) (told : Result Answer Trouble) → Stays old mid → Performs step mid new told → Performs step old new told
stays_then step old mid new (Ok answer) s m = record {
  tree = subst (λ t. Goes (λ x y. effect x step ≡ record { tree = y; answer = answer }) t (tree_of new)) s.tree m.tree;
  faults = m.faults ∙ s.faults;
  fit = m.fit;
}
stays_then step old mid new (Err Fault) s m = record {
  tree = subst (λ t. Goes (λ x y. MayLeave x step y) t (tree_of new)) s.tree m.tree;
  faults = subst (λ n. n ≤ faults_of new.stores) s.faults m.faults;
  cause = subst (λ n. HasRisen n (faults_of new.stores)) s.faults m.cause;
  fit = m.fit;
}
stays_then step old mid new (Err NoMemory) s m = record { tree = m.tree ∙ s.tree; faults = m.faults ∙ s.faults; fit = m.fit }

pub rename_then : (old mid new : List Stored) (places : List Place) (k : ℕ) (p : Place) (to : Name) (told : Result Answer Trouble) → slice_get places k ≡ Some p
    → Finds to old mid (Ok None) → IsFit (spreading old places None) → ActsAt p.store (rename_room p.room to) mid new told
    → Performs (rename_room k to) (spreading old places None) (spreading new places None) told
rename_then old mid new places k p to told at f fit a =
    let free_mid : all_tell (held_by mid) ≡ true → IsFreeIn (held_by mid) to = subst (λ h. all_tell h ≡ true → IsFreeIn h to) (sym f.0.held) f.1 in
    stays_then (rename_room k to) (spreading old places None) (spreading mid places None) (spreading new places None) told
    (same_stays old mid places None f.0 fit)
    (renames_on mid new places k p to told at (held_fit old mid places None f.0.held fit) free_mid a)

pub taken_then : (old new : List Stored) (places : List Place) (k : ℕ) (p q : Place) (to : Name) → slice_get places k ≡ Some p → Finds to old new (Ok (Some q)) → IsFit (spreading old places None)
    → Performs (rename_room k to) (spreading old places None) (spreading new places None) (Ok TargetThere)
taken_then old new places k p q to at f fit = answered_then old new places None (rename_room k to) TargetThere f.0 fit (λ tell.
    let held = held_by old in
    let J = joined held places None in
    let is = f.1 tell in
    let r = (fit tell).placed k p at in
    let here : slice_get (rooms_at held places) k ≡ Some r.0 = get_map (λ z. or_blank (room_at held z)) places k p at ∙ ap (λ x. Some (or_blank x)) r.1 in
    let taken : (j : ℕ) × (number_of J to ≡ Some j) = elim ((fit tell).whole q is.room is.there) [ inl z ↦ (z.0, named_number held places to q z.0 (fit tell) is z.1) | inr d ↦ absurd d ] in
    ap (λ x. or_no_room J k (λ s. renamed s to (number_of J to)) x) here
    ∙ ap (λ o. room_after J k (renamed r.0 to o)) taken.1
    ∙ ap (λ l. record { tree = record { rooms = l }; answer = TargetThere }) (slice_set_same (rooms_at held places) k r.0 here))
