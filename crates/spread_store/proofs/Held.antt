-- The joined tree once a room of one store has changed.
use Rattle.std.proofs.Common.{◌≡◌, ◌⊎◌, inl, inr, ℕ, true, false, nat_eq, List, slice_get, slice_set, Option, Some, None, refl, ap, sym, ◌∙◌, subst, arith}
use Rattle.std.specs.Prelude.{option_map}
use Rattle.std.proofs.lemmas.Bool.Decides.{nat_tests}
use Rattle.store_api.specs.declared.tree.Room.{Room}
use Rattle.store_api.specs.declared.tree.Tree.{Tree}
use Rattle.store_api.specs.declared.step.Answer.{Answer}
use Rattle.store_api.specs.Step.{Name}
use Rattle.store_api.specs.Room.{Outcome}
use Rattle.store_api.specs.Effect.{Effect, in_room, or_no_room, room_after}
use Rattle.store_laws.proofs.Facts.{slice_get-slice_set, slice_get_other-slice_set}
use Rattle.spread_store.specs.declared.places.Place.{Place}
use Rattle.spread_store.specs.declared.places.Doubt.{Doubt}
use Rattle.spread_store.specs.Joined.{Held, rooms_of, rooms_in, room_at, or_blank, rooms_at, joined}
use Rattle.spread_store.specs.Fits.{Doubts, Fits}
use Rattle.spread_store.proofs.Lists.{get_map, map_but}

-- two numbers are one or not
pub nat_cases : (a b : ℕ) → (a ≡ b) ⊎ (a ≡ b → ⊥)
nat_cases a b = elim (nat_eq a b) as (λ t. nat_eq a b ≡ t → (a ≡ b) ⊎ (a ≡ b → ⊥)) [
  | true ↦ λ e. inl (grind (arith, nat_tests))
  | false ↦ λ e. inr (λ same. grind (arith, nat_tests))
] refl

pub place_eq : (p q : Place) → p.store ≡ q.store → p.room ≡ q.room → p ≡ q
place_eq p q f g = λ i. record { store = f i; room = g i }

-- ---- trees whose rooms have the same names

abbrev pub name_at : Option Room → Option Name
name_at found = option_map (λ (r : Room). r.name) found

-- at each place stands a room of the same name, or none
pub record Alike (held new : Held) : Type 0 where
  pub names : (q : Place) → name_at (room_at new q) ≡ name_at (room_at held q)

named_too : (found other : Option Room) → name_at found ≡ name_at other → (b : Room) → found ≡ Some b → (a : Room) × (other ≡ Some a) × (a.name ≡ b.name)
named_too found None e b is = let bad : name_at (Some b) ≡ None = ap name_at (sym is) ∙ e in absurd (cc)
named_too found (Some a) e b is = let good : name_at (Some b) ≡ name_at (Some a) = ap name_at (sym is) ∙ e in (a, refl, cc)

doubts_name : (doubt : Option Doubt) (p : Place) (a b : Room) → a.name ≡ b.name → Doubts doubt p a → Doubts doubt p b
doubts_name None p a b e d = d
doubts_name (Some doubt) p a b e d = (d.0, sym e ∙ d.1)

pub fits_alike : (held new : Held) (places : List Place) (doubt : Option Doubt) → Alike held new → Fits held places doubt → Fits new places doubt
fits_alike held new places doubt alike fit = record {
  placed = λ k p at. let r = fit.placed k p at in let s = named_too (room_at held p) (room_at new p) (sym (alike.names p)) r.0 r.1 in (s.0, s.1);
  apart = fit.apart;
  whole = λ p r e. let s = named_too (room_at new p) (room_at held p) (alike.names p) r e in
      elim (fit.whole p s.0 s.1) [ inl k ↦ inl k | inr d ↦ inr (doubts_name doubt p s.0 r s.2 d) ];
  sure = λ k p r at e d. let s = named_too (room_at new p) (room_at held p) (alike.names p) r e in
      fit.sure k p s.0 at s.1 (doubts_name doubt p r s.0 (sym s.2) d);
  named = λ p q a b e f same.
      let x = named_too (room_at new p) (room_at held p) (alike.names p) a e in
      let y = named_too (room_at new q) (room_at held q) (alike.names q) b f in
      fit.named p q x.0 y.0 x.1 y.1 (x.2 ∙ same ∙ sym y.2);
}

-- ---- one room has changed

-- the store of this number has this tree
abbrev pub with_tree : Held → ℕ → Tree → Held
with_tree held n t = slice_set held n (Some t)

abbrev pub with_room : Tree → ℕ → Room → Tree
with_room t i r = record { rooms = slice_set t.rooms i r }

module _ (held : Held) (p : Place) (t : Tree) (r : Room) (there : slice_get held p.store ≡ Some (Some t)) (found : slice_get t.rooms p.room ≡ Some r) (new : Room) where
  pub room_was : room_at held p ≡ Some r
  room_was = ap (λ x. slice_get (rooms_of x) p.room) there ∙ found

  pub room_now : room_at (with_tree held p.store (with_room t p.room new)) p ≡ Some new
  room_now = ap (λ x. slice_get (rooms_of x) p.room) (slice_get-slice_set held p.store (Some t) (Some (with_room t p.room new)) there) ∙ slice_get-slice_set t.rooms p.room r new found

  elsewhere : (s i : ℕ) → (s ≡ p.store → i ≡ p.room → ⊥) → slice_get (rooms_in (with_tree held p.store (with_room t p.room new)) s) i ≡ slice_get (rooms_in held s) i
  elsewhere s i other = elim (nat_cases s p.store) as (λ _. slice_get (rooms_in (with_tree held p.store (with_room t p.room new)) s) i ≡ slice_get (rooms_in held s) i) [
    | inl e ↦ subst (λ z. slice_get (rooms_in (with_tree held p.store (with_room t p.room new)) z) i ≡ slice_get (rooms_in held z) i) (sym e)
        (ap (λ x. slice_get (rooms_of x) i) (slice_get-slice_set held p.store (Some t) (Some (with_room t p.room new)) there)
        ∙ slice_get_other-slice_set t.rooms p.room i new (other e)
        ∙ sym (ap (λ x. slice_get (rooms_of x) i) there))
    | inr apart ↦ ap (λ x. slice_get (rooms_of x) i) (slice_get_other-slice_set held p.store s (Some (with_room t p.room new)) apart)
  ]

  pub room_other : (q : Place) → (q ≡ p → ⊥) → room_at (with_tree held p.store (with_room t p.room new)) q ≡ room_at held q
  room_other q other = elsewhere q.store q.room (λ e f. other (place_eq q p e f))

  alike_at : (s i : ℕ) → new.name ≡ r.name → (s ≡ p.store) ⊎ (s ≡ p.store → ⊥) → (i ≡ p.room) ⊎ (i ≡ p.room → ⊥)
      → name_at (slice_get (rooms_in (with_tree held p.store (with_room t p.room new)) s) i) ≡ name_at (slice_get (rooms_in held s) i)
  alike_at s i same (inl e) (inl f) =
      subst (λ z. name_at (slice_get (rooms_in (with_tree held p.store (with_room t p.room new)) z) i) ≡ name_at (slice_get (rooms_in held z) i)) (sym e)
      (subst (λ z. name_at (slice_get (rooms_in (with_tree held p.store (with_room t p.room new)) p.store) z) ≡ name_at (slice_get (rooms_in held p.store) z)) (sym f)
      (ap name_at room_now ∙ ap (λ n. Some n) same ∙ sym (ap name_at room_was)))
  alike_at s i same (inl e) (inr apart) = ap name_at (elsewhere s i (λ _ f. apart f))
  alike_at s i same (inr apart) f = ap name_at (elsewhere s i (λ e _. apart e))

  pub alike_now : new.name ≡ r.name → Alike held (with_tree held p.store (with_room t p.room new))
  alike_now same = record { names = λ q. alike_at q.store q.room same (nat_cases q.store p.store) (nat_cases q.room p.room) }

  -- the joined tree has changed at the room's number
  pub rooms_now : (places : List Place) (k : ℕ) → slice_get places k ≡ Some p → Fits held places None → rooms_at (with_tree held p.store (with_room t p.room new)) places ≡ slice_set (rooms_at held places) k new
  rooms_now places k at fit =
      map_but (λ q. or_blank (room_at held q)) (λ q. or_blank (room_at (with_tree held p.store (with_room t p.room new)) q)) places k p new at (ap or_blank room_now)
      (λ j z e other. ap or_blank (room_other z (λ same. other (fit.apart j k p (e ∙ ap (λ w. Some w) same) at))))

-- ---- a step on a room of one store is a step on the joined tree

module _ (held : Held) (places : List Place) (k : ℕ) (p : Place) (t : Tree) (r : Room) (at : slice_get places k ≡ Some p) (fit : Fits held places None) (there : slice_get held p.store ≡ Some (Some t)) (found : slice_get t.rooms p.room ≡ Some r) where
  pub numbered_room : slice_get (rooms_at held places) k ≡ Some r
  numbered_room = get_map (λ q. or_blank (room_at held q)) places k p at ∙ ap (λ x. Some (or_blank x)) (room_was held p t r there found r)

  pub one_room : (f g : Room → Outcome) (after : Tree) (answer : Answer) → f r ≡ g r → in_room t p.room f ≡ record { tree = after; answer = answer }
      → (after ≡ with_room t p.room (g r).room) × (in_room (joined held places None) k g ≡ record { tree = joined (with_tree held p.store after) places None; answer = answer })
  one_room f g after answer same e =
      let within : ◌≡◌ {A = Effect} (room_after t p.room (f r)) (record { tree = after; answer = answer }) = sym (ap (λ x. or_no_room t p.room f x) found) ∙ e in
      let is : with_room t p.room (g r).room ≡ after = ap (λ (o : Outcome). with_room t p.room o.room) (sym same) ∙ ap (λ (x : Effect). x.tree) within in
      let told : (g r).answer ≡ answer = ap (λ (o : Outcome). o.answer) (sym same) ∙ ap (λ (x : Effect). x.answer) within in
      let whole : slice_set (rooms_at held places) k (g r).room ≡ rooms_at (with_tree held p.store after) places =
      sym (rooms_now held p t r there found (g r).room places k at fit) ∙ ap (λ w. rooms_at (with_tree held p.store w) places) is in
      (sym is, ap (λ x. or_no_room (joined held places None) k g x) numbered_room ∙ (λ i. record { tree = record { rooms = whole i }; answer = told i }))
