-- The room in doubt: it was made, or not, and the joined tree stays when that is learnt.
use Rattle.std.proofs.Common.{◌≡◌, ◌⊎◌, inl, inr, ℕ, zero, suc, Bool, true, false, cond, List, [], ◌∷◌, ◌++◌, length, map, slice_get, Option, Some, None, refl, ap, sym, ◌∙◌, subst, arith}
use Rattle.std.specs.Prelude.{filter, Ok}
use Rattle.store_api.specs.declared.tree.Room.{Room}
use Rattle.store_api.specs.Step.{Name}
use Rattle.store_api.specs.Names.{same_name}
use Rattle.store_api.specs.Acts.{Stored}
use Rattle.store_laws.proofs.Facts.{name_other, name_same, slice_get_before, slice_get_last, slice_get_more}
use Rattle.spread_store.specs.declared.places.Place.{Place}
use Rattle.spread_store.specs.declared.places.Doubt.{Doubt}
use Rattle.spread_store.specs.Joined.{Held, held_by, all_tell, rooms_in, room_at, or_blank, rooms_at, joined, spreading, tree_of}
use Rattle.spread_store.specs.Fits.{Fits, IsFit}
use Rattle.spread_store.specs.Finding.{SameHeld, FailsHeld, IsNamed, LacksName, FindsIn}
use Rattle.spread_store.specs.Performs.{Stays, FailsOnly}
use Rattle.spread_store.proofs.Held.{nat_cases}

-- ---- what the stores hold stays, and so does the tree

pub held_tree : (old new : List Stored) (places : List Place) (doubt : Option Doubt) → held_by new ≡ held_by old → tree_of (spreading new places doubt) ≡ tree_of (spreading old places doubt)
held_tree old new places doubt e = ap (λ h. cond (all_tell h) (Some (joined h places doubt)) None) e

pub held_fit : (old new : List Stored) (places : List Place) (doubt : Option Doubt) → held_by new ≡ held_by old → IsFit (spreading old places doubt) → IsFit (spreading new places doubt)
held_fit old new places doubt e fit = subst (λ h. all_tell h ≡ true → Fits h places doubt) (sym e) fit

pub same_stays : (old new : List Stored) (places : List Place) (doubt : Option Doubt) → SameHeld old new → IsFit (spreading old places doubt) → Stays (spreading old places doubt) (spreading new places doubt)
same_stays old new places doubt same fit = record { tree = held_tree old new places doubt same.held; faults = same.faults; fit = held_fit old new places doubt same.held fit }

pub fails_stays : (old new : List Stored) (places : List Place) (doubt : Option Doubt) → FailsHeld old new → IsFit (spreading old places doubt) → FailsOnly (spreading old places doubt) (spreading new places doubt)
fails_stays old new places doubt f fit = record { tree = held_tree old new places doubt f.held; faults = f.faults; cause = f.cause; fit = held_fit old new places doubt f.held fit }

-- the places and the doubt change, and the joined tree stays
pub learnt : (old new : List Stored) (places more : List Place) (doubt next : Option Doubt) → SameHeld old new
    → (all_tell (held_by old) ≡ true → (joined (held_by old) more next ≡ joined (held_by old) places doubt) × Fits (held_by old) more next)
    → Stays (spreading old places doubt) (spreading new more next)
learnt old new places more doubt next same h = record {
  tree = held_tree old new more next same.held ∙ by_telling (all_tell (held_by old)) refl;
  faults = same.faults;
  fit = subst (λ x. all_tell x ≡ true → Fits x more next) (sym same.held) (λ tell. (h tell).1);
}
  where
    by_telling : (b : Bool) → all_tell (held_by old) ≡ b → cond b (Some (joined (held_by old) more next)) None ≡ cond b (Some (joined (held_by old) places doubt)) None
    by_telling true tell = ap (λ t. Some t) (h tell).0
    by_telling false tell = refl

-- ---- the rooms of a name

abbrev named : Name → Room → Bool
named name r = same_name r.name name

pub none_named : (name : Name) (rooms : List Room) → ((j : ℕ) (s : Room) → slice_get rooms j ≡ Some s → s.name ≡ name → ⊥) → filter (named name) rooms ≡ []
none_named name [] h = refl
none_named name (r ∷ rooms) h = rw (name_other r.name name (h zero r refl)) (none_named name rooms (λ j s e. h (suc j) s e))

pub one_named : (name : Name) (rooms : List Room) (i : ℕ) (r : Room) → slice_get rooms i ≡ Some r → r.name ≡ name
    → ((j : ℕ) (s : Room) → slice_get rooms j ≡ Some s → s.name ≡ name → j ≡ i) → filter (named name) rooms ≡ r ∷ []
one_named name [] i r e is h = absurd (cc)
one_named name (x ∷ rooms) zero r e is h =
    let same : x ≡ r = cc in
    let yes_named : same_name x.name name ≡ true = name_same x.name name (ap (λ (y : Room). y.name) same ∙ is) in
    rw yes_named (ap (λ l. x ∷ l) (none_named name rooms (λ j s f n. let o : suc j ≡ 0 = h (suc j) s f n in absurd (omega (arith, o)))) ∙ ap (λ y. y ∷ []) same)
one_named name (x ∷ rooms) (suc i) r e is h =
    let apart : x.name ≡ name → ⊥ = λ n. (let o : 0 ≡ suc i = h zero x refl n in absurd (omega (arith, o))) in
    rw (name_other x.name name apart) (one_named name rooms i r e is (λ j s f n. let o : suc j ≡ suc i = h (suc j) s f n in omega (arith, o)))

-- ---- it was made

module _ (held : Held) (places : List Place) (d : Doubt) (i : ℕ) (fit : Fits held places (Some d)) (f : IsNamed held d.name (record { store = d.store; room = i })) where
  pub made_tree : joined held (places ++ record { store = d.store; room = i } ∷ []) None ≡ joined held places (Some d)
  made_tree =
      let one = one_named d.name (rooms_in held d.store) i f.room f.there f.named
      (λ j s e n. ap (λ (q : Place). q.room) (fit.named (record { store = d.store; room = j }) (record { store = d.store; room = i }) s f.room e f.there (n ∙ sym f.named))) in
      let last = ap (λ x. or_blank x) f.there in
      let whole = map_append (λ q. or_blank (room_at held q)) places (record { store = d.store; room = i }) in
      ap (λ l. record { rooms = l }) (whole ∙ ap (λ x. rooms_at held places ++ x ∷ []) last ∙ ap (λ l. rooms_at held places ++ l) (sym one))
    where
      map_append : (g : Place → Room) (ps : List Place) (p : Place) → map g (ps ++ p ∷ []) ≡ map g ps ++ g p ∷ []
      map_append g [] p = refl
      map_append g (x ∷ ps) p = ap (λ l. g x ∷ l) (map_append g ps p)

  abbrev spot : Place
  spot = record { store = d.store; room = i }

  is_last : (k : ℕ) (q : Place) → slice_get (places ++ spot ∷ []) k ≡ Some q → ((k ≡ length places) × (q ≡ spot)) ⊎ (slice_get places k ≡ Some q)
  is_last k q e = let m = slice_get_more places k q spot e in elim (nat_cases k (length places)) [ inl at ↦ inl (at, m.0 at) | inr other ↦ inr (m.1 other) ]

  not_placed : (k : ℕ) → slice_get places k ≡ Some spot → ⊥
  not_placed k at = fit.sure k spot f.room at f.there (refl, f.named)

  pub made_fits : Fits held (places ++ spot ∷ []) None
  made_fits = record {
    placed = λ k q e. elim (is_last k q e) [
      | inl l ↦ (f.room, ap (λ z. room_at held z) l.1 ∙ f.there)
      | inr at ↦ fit.placed k q at
    ];
    apart = λ j k q e g. elim (is_last j q e) [
      | inl l ↦ elim (is_last k q g) [
        | inl m ↦ l.0 ∙ sym m.0
        | inr at ↦ absurd (not_placed k (at ∙ ap (λ z. Some z) l.1))
      ]
      | inr at ↦ elim (is_last k q g) [
        | inl m ↦ absurd (not_placed j (at ∙ ap (λ z. Some z) m.1))
        | inr too ↦ fit.apart j k q at too
      ]
    ];
    whole = λ q r e. elim (fit.whole q r e) [
      | inl at ↦ inl (at.0, slice_get_before places at.0 q spot at.1)
      | inr doubt ↦
          let same : q ≡ spot = fit.named q spot r f.room e f.there (doubt.1 ∙ sym f.named) in
          inl (length places, slice_get_last places spot ∙ ap (λ z. Some z) (sym same))
    ];
    sure = λ k q r at e doubt. doubt;
    named = fit.named;
  }

-- ---- it was not made

pub unmade_tree : (held : Held) (places : List Place) (d : Doubt) → LacksName held d.name d.store → joined held places None ≡ joined held places (Some d)
unmade_tree held places d none =
    let empty = none_named d.name (rooms_in held d.store) (λ j s e n. none j s e n) in
    ap (λ l. record { rooms = l }) (sym (append_none (rooms_at held places)) ∙ ap (λ l. rooms_at held places ++ l) (sym empty))
  where
    append_none : (rooms : List Room) → rooms ++ [] ≡ rooms
    append_none [] = refl
    append_none (r ∷ rooms) = ap (λ l. r ∷ l) (append_none rooms)

pub unmade_fits : (held : Held) (places : List Place) (d : Doubt) → LacksName held d.name d.store → Fits held places (Some d) → Fits held places None
unmade_fits held places d none fit = record {
  placed = fit.placed;
  apart = fit.apart;
  whole = λ q r e. elim (fit.whole q r e) [
    | inl at ↦ inl at
    | inr doubt ↦ absurd (none q.room r (ap (λ s. room_at held (record { store = s; room = q.room })) (sym doubt.0) ∙ e) doubt.1)
  ];
  sure = λ k q r at e doubt. doubt;
  named = fit.named;
}

-- ---- it was asked for

pub settled_made : (old new : List Stored) (places : List Place) (d : Doubt) (i : ℕ) → FindsIn d.store d.name old new (Ok (Some i)) → IsFit (spreading old places (Some d))
    → Stays (spreading old places (Some d)) (spreading new (places ++ record { store = d.store; room = i } ∷ []) None)
settled_made old new places d i f fit = learnt old new places (places ++ record { store = d.store; room = i } ∷ []) (Some d) None f.0
    (λ tell. (made_tree (held_by old) places d i (fit tell) (f.1 tell), made_fits (held_by old) places d i (fit tell) (f.1 tell)))

pub settled_unmade : (old new : List Stored) (places : List Place) (d : Doubt) → FindsIn d.store d.name old new (Ok None) → IsFit (spreading old places (Some d))
    → Stays (spreading old places (Some d)) (spreading new places None)
settled_unmade old new places d f fit = learnt old new places places (Some d) None f.0
    (λ tell. (unmade_tree (held_by old) places d (f.1 tell), unmade_fits (held_by old) places d (f.1 tell) (fit tell)))
