-- The number of the room of a name in the joined tree.
use Rattle.std.proofs.Common.{◌≡◌, ◌<◌, ℕ, zero, suc, Bool, true, false, cond, nat_lt, List, [], ◌∷◌, length, slice_get, Some, None, refl, ap, sym, ◌∙◌, arith}
use Rattle.std.specs.List.{position, position_or_len}
use Rattle.std.proofs.lemmas.Bool.Decides.{nat_tests}
use Rattle.store_api.specs.declared.tree.Room.{Room}
use Rattle.store_api.specs.Step.{Name}
use Rattle.store_api.specs.Names.{same_name}
use Rattle.store_api.specs.Effect.{number_of}
use Rattle.store_laws.proofs.Facts.{name_other, name_same}
use Rattle.spread_store.specs.declared.places.Place.{Place}
use Rattle.spread_store.specs.Joined.{Held, room_at, or_blank, rooms_at, joined}
use Rattle.spread_store.specs.Fits.{Fits}
use Rattle.spread_store.specs.Finding.{IsNamed, IsFreeIn}
use Rattle.spread_store.proofs.Lists.{get_map, get_map_back}

-- ---- the first place at which a test passes

first_at : {X : Type 0} (p : X → Bool) (xs : List X) (n : ℕ) (x : X) → slice_get xs n ≡ Some x → p x ≡ true
    → ((j : ℕ) (y : X) → j < n → slice_get xs j ≡ Some y → p y ≡ false) → (position_or_len p xs ≡ n) × (n < length xs)
first_at p [] n x e is h = absurd (cc)
first_at p (z ∷ xs) zero x e is h =
    let same : z ≡ x = cc in
    let passes : p z ≡ true = ap p same ∙ is in
    (rw passes refl, omega arith)
first_at p (z ∷ xs) (suc n) x e is h =
    let fails : p z ≡ false = h zero z (omega arith) refl in
    let rest = first_at p xs n x e is (λ j y l at. h (suc j) y (omega arith) at) in
    (rw (fails, rest.0) (omega arith), omega (arith, rest.1))

past : {X : Type 0} (p : X → Bool) (xs : List X) → ((j : ℕ) (y : X) → slice_get xs j ≡ Some y → p y ≡ false) → position_or_len p xs ≡ length xs
past p [] h = refl
past p (z ∷ xs) h =
    let fails : p z ≡ false = h zero z refl in
    let rest = past p xs (λ j y at. h (suc j) y at) in
    rw (fails, rest) (omega arith)

within : (n len : ℕ) → n < len → nat_lt n len ≡ true
within n len l = grind (arith, nat_tests)

not_below : (n : ℕ) → nat_lt n n ≡ false
not_below n = grind (arith, nat_tests)

pub position_at : {X : Type 0} (p : X → Bool) (xs : List X) (n : ℕ) (x : X) → slice_get xs n ≡ Some x → p x ≡ true
    → ((j : ℕ) (y : X) → j < n → slice_get xs j ≡ Some y → p y ≡ false) → position p xs ≡ Some n
position_at p xs n x e is h =
    let f = first_at p xs n x e is h in
    ap (λ k. cond (nat_lt k (length xs)) (Some k) None) f.0 ∙ ap (λ b. cond b (Some n) None) (within n (length xs) f.1)

pub position_none : {X : Type 0} (p : X → Bool) (xs : List X) → ((j : ℕ) (y : X) → slice_get xs j ≡ Some y → p y ≡ false) → position p xs ≡ None
position_none p xs h = ap (λ k. cond (nat_lt k (length xs)) (Some k) None) (past p xs h) ∙ ap (λ b. cond b (Some (length xs)) None) (not_below (length xs))

-- ---- rooms

-- the room of this number stands at the place of this number
pub room_of : (held : Held) (places : List Place) → Fits held places None → (j : ℕ) (y : Room) → slice_get (rooms_at held places) j ≡ Some y → (q : Place) × (slice_get places j ≡ Some q) × (room_at held q ≡ Some y)
room_of held places fit j y e =
    let q = get_map_back (λ p. or_blank (room_at held p)) places j y e in
    let r = fit.placed j q.0 q.1 in
    (q.0, q.1, r.1 ∙ ap (λ x. Some x) (sym (ap (λ x. or_blank x) r.1) ∙ q.2))

pub free_number : (held : Held) (places : List Place) (name : Name) → Fits held places None → IsFreeIn held name → number_of (joined held places None) name ≡ None
free_number held places name fit free = position_none (λ r. same_name r.name name) (rooms_at held places) (λ j y e.
    let q = room_of held places fit j y e in
    name_other y.name name (free q.0 y q.2))

pub named_number : (held : Held) (places : List Place) (name : Name) (p : Place) (k : ℕ) → Fits held places None → IsNamed held name p → slice_get places k ≡ Some p → number_of (joined held places None) name ≡ Some k
named_number held places name p k fit f at = position_at (λ r. same_name r.name name) (rooms_at held places) k f.room
    (get_map (λ q. or_blank (room_at held q)) places k p at ∙ ap (λ x. Some (or_blank x)) f.there)
    (name_same f.room.name name f.named)
    (λ j y l e.
    let q = room_of held places fit j y e in
    name_other y.name name (λ same.
    let one : q.0 ≡ p = fit.named q.0 p y f.room q.2 f.there (same ∙ sym f.named) in
    let two : j ≡ k = fit.apart j k p (q.1 ∙ ap (λ z. Some z) one) at in
    absurd (omega (arith, two, l))))
