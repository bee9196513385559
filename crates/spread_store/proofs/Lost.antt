-- A loss of power of all stores is one of the tree that they hold as one.
use Rattle.std.proofs.Common.{◌≡◌, inl, inr, ℕ, zero, suc, true, false, cond, List, [], ◌∷◌, ◌++◌, slice_get, Option, Some, None, refl, ap, sym, ◌∙◌, subst}
use Rattle.std.specs.Prelude.{filter}
use Rattle.store_api.specs.declared.tree.Room.{Room}
use Rattle.store_api.specs.declared.tree.Tree.{Tree}
use Rattle.store_api.specs.Names.{same_name}
use Rattle.store_api.specs.Acts.{Stored}
use Rattle.store_api.specs.Step.{Name}
use Rattle.store_api.specs.Loss.{LosesRoom, LoseRooms, Loses}
use Rattle.spread_store.specs.declared.places.Place.{Place}
use Rattle.spread_store.specs.declared.places.Doubt.{Doubt}
use Rattle.spread_store.specs.Fits.{Doubts, Fits, IsFit}
use Rattle.spread_store.specs.Joined.{Held, held_by, all_tell, rooms_of, rooms_in, room_at, or_blank, rooms_at, joined, spreading, tree_of}
use Rattle.spread_store.specs.Losing.{LosesAt, LoseEach}

-- ---- lists of rooms

no_rooms : LoseRooms [] []
no_rooms = refl

room_after : (xs ys : List Room) (i : ℕ) (r : Room) → LoseRooms xs ys → slice_get xs i ≡ Some r → (s : Room) × (slice_get ys i ≡ Some s) × LosesRoom r s
room_after [] ys i r l e = absurd (cc)
room_after (x ∷ xs) ys zero r l e = let same : x ≡ r = cc in (l.0, ap (λ z. slice_get z 0) l.2, subst (λ z. LosesRoom z l.0) same l.3)
room_after (x ∷ xs) ys (suc i) r l e = let rest = room_after xs l.1 i r l.4 e in (rest.0, ap (λ z. slice_get z (suc i)) l.2 ∙ rest.1, rest.2)

none_after : (xs ys : List Room) (i : ℕ) → LoseRooms xs ys → slice_get xs i ≡ None → slice_get ys i ≡ None
none_after [] ys i l e = ap (λ z. slice_get z i) l
none_after (x ∷ xs) ys zero l e = absurd (cc)
none_after (x ∷ xs) ys (suc i) l e = ap (λ z. slice_get z (suc i)) l.2 ∙ none_after xs l.1 i l.4 e

room_before : (xs ys : List Room) (i : ℕ) (s : Room) → LoseRooms xs ys → slice_get ys i ≡ Some s → (r : Room) × (slice_get xs i ≡ Some r) × LosesRoom r s
room_before xs ys i s l e = elim (slice_get xs i) as (λ o. slice_get xs i ≡ o → (r : Room) × (o ≡ Some r) × LosesRoom r s) [
  | None ↦ λ none. let gone = none_after xs ys i l none in absurd (cc)
  | Some r ↦ λ there. let x = room_after xs ys i r l there in let at = x.1 in let same : x.0 ≡ s = cc in (r, refl, subst (λ z. LosesRoom r z) same x.2)
] refl

joined_lists : (xs ys us vs : List Room) → LoseRooms xs ys → LoseRooms us vs → LoseRooms (xs ++ us) (ys ++ vs)
joined_lists [] ys us vs l m = subst (λ z. LoseRooms us (z ++ vs)) (sym l) m
joined_lists (x ∷ xs) ys us vs l m = (l.0, l.1 ++ vs, ap (λ z. z ++ vs) l.2, l.3, joined_lists xs l.1 us vs l.4 m)

named : (name : Name) (xs ys : List Room) → LoseRooms xs ys → LoseRooms (filter (λ (r : Room). same_name r.name name) xs) (filter (λ (r : Room). same_name r.name name) ys)
named name [] ys l = ap (λ z. filter (λ (r : Room). same_name r.name name) z) l
named name (x ∷ xs) ys l =
    let rest = named name xs l.1 l.4 in
    let same : same_name l.0.name name ≡ same_name x.name name = ap (λ z. same_name z name) l.3.name in
    subst (λ z. LoseRooms (filter (λ (r : Room). same_name r.name name) (x ∷ xs)) (filter (λ (r : Room). same_name r.name name) z)) (sym l.2)
    (subst (λ b. LoseRooms (cond (same_name x.name name) (x ∷ filter (λ (r : Room). same_name r.name name) xs) (filter (λ (r : Room). same_name r.name name) xs))
    (cond b (l.0 ∷ filter (λ (r : Room). same_name r.name name) l.1) (filter (λ (r : Room). same_name r.name name) l.1))) (sym same)
    (elim (same_name x.name name) as (λ b. LoseRooms (cond b (x ∷ filter (λ (r : Room). same_name r.name name) xs) (filter (λ (r : Room). same_name r.name name) xs))
    (cond b (l.0 ∷ filter (λ (r : Room). same_name r.name name) l.1) (filter (λ (r : Room). same_name r.name name) l.1))) [
      | true ↦ (l.0, filter (λ (r : Room). same_name r.name name) l.1, refl, l.3, rest)
      | false ↦ rest
    ]))

-- ---- the stores

in_store : (o n : Option (Option Tree)) → LosesAt o n → LoseRooms (rooms_of o) (rooms_of n)
in_store None n l = ap rooms_of l
in_store (Some None) n l = ap rooms_of l
in_store (Some (Some tree)) n l = subst (λ z. LoseRooms tree.rooms (rooms_of z)) (sym l.1) l.2

blank_after : (o n : Option Room) → ((r : Room) → o ≡ Some r → (s : Room) × (n ≡ Some s) × LosesRoom r s) → (o ≡ None → n ≡ None) → LosesRoom (or_blank o) (or_blank n)
blank_after None n some none = subst (λ z. LosesRoom (or_blank None) (or_blank z)) (sym (none refl)) (record { name = refl; folders = refl; files = refl })
blank_after (Some r) n some none = let x = some r refl in subst (λ z. LosesRoom r (or_blank z)) (sym x.1) x.2

module _ (old new : Held) (lost : LoseEach old new) where
  in_each : (s : ℕ) → LoseRooms (rooms_in old s) (rooms_in new s)
  in_each s = in_store (slice_get old s) (slice_get new s) (lost s)

  placed : (places : List Place) → LoseRooms (rooms_at old places) (rooms_at new places)
  placed [] = refl
  placed (p ∷ places) = (
    or_blank (room_at new p),
    rooms_at new places,
    refl,
    blank_after (room_at old p) (room_at new p) (λ r e. room_after (rooms_in old p.store) (rooms_in new p.store) p.room r (in_each p.store) e) (λ e. none_after (rooms_in old p.store) (rooms_in new p.store) p.room (in_each p.store) e),
    placed places,
  )

  pub join_lost : (places : List Place) (doubt : Option Doubt) → Loses (joined old places doubt) (joined new places doubt)
  join_lost places None = placed places
  join_lost places (Some doubt) = joined_lists (rooms_at old places) (rooms_at new places) (filter (λ (r : Room). same_name r.name doubt.name) (rooms_in old doubt.store)) (filter (λ (r : Room). same_name r.name doubt.name) (rooms_in new doubt.store))
      (placed places) (named doubt.name (rooms_in old doubt.store) (rooms_in new doubt.store) (in_each doubt.store))

  was : (p : Place) (s : Room) → room_at new p ≡ Some s → (r : Room) × (room_at old p ≡ Some r) × LosesRoom r s
  was p s e = room_before (rooms_in old p.store) (rooms_in new p.store) p.room s (in_each p.store) e

  doubted : (doubt : Option Doubt) (p : Place) (r s : Room) → r.name ≡ s.name → Doubts doubt p r → Doubts doubt p s
  doubted None p r s same d = d
  doubted (Some doubt) p r s same d = (d.0, sym same ∙ d.1)

  pub fit_lost : (places : List Place) (doubt : Option Doubt) → Fits old places doubt → Fits new places doubt
  fit_lost places doubt fit = record {
    placed = λ k p e. let x = fit.placed k p e in let y = room_after (rooms_in old p.store) (rooms_in new p.store) p.room x.0 (in_each p.store) x.1 in (y.0, y.1);
    apart = fit.apart;
    whole = λ p r e. let x = was p r e in elim (fit.whole p x.0 x.1) [ inl at ↦ inl at | inr d ↦ inr (doubted doubt p x.0 r (sym x.2.name) d) ];
    sure = λ k p r at e d. let x = was p r e in fit.sure k p x.0 at x.1 (doubted doubt p r x.0 x.2.name d);
    named = λ p q a b e f same. let x = was p a e in let y = was q b f in fit.named p q x.0 y.0 x.1 y.1 (sym x.2.name ∙ same ∙ y.2.name);
  }

all_lost : (old new : Held) → LoseEach old new → all_tell new ≡ all_tell old
all_lost [] [] l = refl
all_lost [] (n ∷ new) l = absurd (let bad = l 0 in cc)
all_lost (None ∷ old) [] l = absurd (let bad = l 0 in cc)
all_lost (Some tree ∷ old) [] l = absurd (let bad = (l 0).1 in cc)
all_lost (None ∷ old) (n ∷ new) l = let first = l 0 in let same : n ≡ None = cc in ap (λ z. all_tell (z ∷ new)) same
all_lost (Some tree ∷ old) (n ∷ new) l = let first = (l 0).1 in let same : n ≡ Some (l 0).0 = cc in ap (λ z. all_tell (z ∷ new)) same ∙ all_lost old new (λ s. l (suc s))

pub trees_lost : (old new : List Stored) (places : List Place) (doubt : Option Doubt) (tree : Tree) → LoseEach (held_by old) (held_by new) → tree_of (spreading old places doubt) ≡ Some tree
    → (after : Tree) × (tree_of (spreading new places doubt) ≡ Some after) × Loses tree after
trees_lost old new places doubt tree lost e =
    elim (all_tell (held_by old)) as (λ b. all_tell (held_by new) ≡ b → cond b (Some (joined (held_by old) places doubt)) None ≡ Some tree → (after : Tree) × (tree_of (spreading new places doubt) ≡ Some after) × Loses tree after) [
      | true ↦ λ tell is. let same : joined (held_by old) places doubt ≡ tree = cc in
          (joined (held_by new) places doubt, ap (λ b. cond b (Some (joined (held_by new) places doubt)) None) tell, subst (λ t. Loses t (joined (held_by new) places doubt)) same (join_lost (held_by old) (held_by new) lost places doubt))
      | false ↦ λ tell is. absurd (cc)
    ] (all_lost (held_by old) (held_by new) lost) e

pub fits_lost : (old new : List Stored) (places : List Place) (doubt : Option Doubt) → LoseEach (held_by old) (held_by new) → IsFit (spreading old places doubt) → IsFit (spreading new places doubt)
fits_lost old new places doubt lost fit tell = fit_lost (held_by old) (held_by new) lost places doubt (fit (sym (all_lost (held_by old) (held_by new) lost) ∙ tell))
