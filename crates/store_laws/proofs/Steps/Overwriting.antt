-- Bytes written over the front of what they continue, and lists that begin alike.
use Rattle.std.proofs.Common.{◌≡◌, ℕ, zero, suc, ◌+◌, ◌*◌, ◌≤◌, ◌<◌, List, [], ◌∷◌, ◌++◌, length, take, drop, refl, ap, sym, ◌∙◌, inl, inr, subst, arith, append_assoc, length-append, length-drop, length-take-le, zero-add}
use Rattle.std.specs.Prelude.{max}
use Rattle.std.specs.List.{flat_map}
use Rattle.std.proofs.lemmas.Bool.{cases_lt}
use Rattle.std.proofs.lemmas.List.{append-nil, take_at, drop_at, take_all, drop_all}
use Rattle.plfs_types.specs.Bytes.{overwritten}
use Rattle.store_laws.specs.Prefix.{IsPrefix}

-- ---- prefixes

pub prefix_self : (a rest : List ℕ) → IsPrefix a (a ++ rest)
prefix_self [] rest = tt
prefix_self (x ∷ a) rest = (refl, prefix_self a rest)

pub prefix-append : (a b c : List ℕ) → IsPrefix a b → IsPrefix a (b ++ c)
prefix-append [] b c p = tt
prefix-append (x ∷ a) [] c p = absurd p
prefix-append (x ∷ a) (y ∷ b) c p = (p.0, prefix-append a b c p.1)

-- the first part of a prefix is a prefix
pub prefix_front : (a b whole : List ℕ) → IsPrefix (a ++ b) whole → IsPrefix a whole
prefix_front [] b whole p = tt
prefix_front (x ∷ a) b [] p = absurd p
prefix_front (x ∷ a) b (y ∷ whole) p = (p.0, prefix_front a b whole p.1)

-- a prefix that is no shorter than the first part has all of it
pub prefix-split : (a b c : List ℕ) → IsPrefix a (b ++ c) → length b ≤ length a → (rest : List ℕ) × (a ≡ b ++ rest) × IsPrefix rest c
prefix-split a [] c p l = (a, refl, p)
prefix-split [] (y ∷ b) c p l = absurd (omega arith)
prefix-split (x ∷ a) (y ∷ b) c p l =
    let r = prefix-split a b c p.1 (omega arith) in
    (r.0, ap (λ l. x ∷ l) r.1 ∙ ap (λ z. z ∷ (b ++ r.0)) p.0, r.2)

-- a prefix, and what the whole has after it
pub prefix_rest : (a whole : List ℕ) → IsPrefix a whole → whole ≡ a ++ drop (length a) whole
prefix_rest [] whole p = refl
prefix_rest (x ∷ a) [] p = absurd p
prefix_rest (x ∷ a) (y ∷ whole) p = ap (λ z. z ∷ whole) (sym p.0) ∙ ap (λ l. x ∷ l) (prefix_rest a whole p.1)

pub prefix_trans : (a b c : List ℕ) → IsPrefix a b → IsPrefix b c → IsPrefix a c
prefix_trans [] b c p q = tt
prefix_trans (x ∷ a) [] c p q = absurd p
prefix_trans (x ∷ a) (y ∷ b) [] p q = absurd q
prefix_trans (x ∷ a) (y ∷ b) (z ∷ c) p q = (p.0 ∙ q.0, prefix_trans a b c p.1 q.1)

pub prefix_length : (a b : List ℕ) → IsPrefix a b → length a ≤ length b
prefix_length [] b p = omega arith
prefix_length (x ∷ a) [] p = absurd p
prefix_length (x ∷ a) (y ∷ b) p = let rest = prefix_length a b p.1 in omega arith

pub prefix_take : (k : ℕ) (whole : List ℕ) → IsPrefix (take k whole) whole
prefix_take zero whole = tt
prefix_take (suc k) [] = tt
prefix_take (suc k) (x ∷ whole) = (refl, prefix_take k whole)

-- ---- overwriting

drop_nothing : (n : ℕ) → drop {A = ℕ} n [] ≡ []
drop_nothing zero = refl
drop_nothing (suc n) = refl

no_more : (a whole : List ℕ) (n : ℕ) → IsPrefix (a ++ drop n []) whole → IsPrefix (a ++ []) whole
no_more a whole n p = subst (λ d. IsPrefix (a ++ d) whole) (drop_nothing n) p

overwritten_front : (whole old : List ℕ) (k : ℕ) → IsPrefix old whole → IsPrefix (take k whole ++ drop (length (take k whole)) old) whole
overwritten_front [] [] zero p = tt
overwritten_front [] (x ∷ old) zero p = p
overwritten_front (y ∷ whole) [] zero p = tt
overwritten_front (y ∷ whole) (x ∷ old) zero p = p
overwritten_front [] [] (suc k) p = tt
overwritten_front [] (x ∷ old) (suc k) p = p
overwritten_front (y ∷ whole) [] (suc k) p = (refl, no_more (take k whole) whole (length (take k whole)) (overwritten_front whole [] k tt))
overwritten_front (y ∷ whole) (x ∷ old) (suc k) p = (refl, overwritten_front whole old k p.1)

-- an overwrite by what follows in the whole leaves a prefix of it
pub prefix-overwritten : (whole old : List ℕ) (at k : ℕ) → IsPrefix old whole → at ≤ length old → IsPrefix (overwritten old at (take k (drop at whole))) whole
prefix-overwritten whole old zero k p within = rw zero-add (overwritten_front whole old k p)
prefix-overwritten whole [] (suc at) k p within = absurd (omega arith)
prefix-overwritten [] (x ∷ old) (suc at) k p within = absurd p
prefix-overwritten (y ∷ whole) (x ∷ old) (suc at) k p within =
    let next : suc at + length (take k (drop at whole)) ≡ suc (at + length (take k (drop at whole))) = omega arith in
    (p.0, rw next (prefix-overwritten whole old at k p.1 (omega arith)))

pub length-overwritten : (old : List ℕ) (at : ℕ) (bytes : List ℕ) → at ≤ length old → length (overwritten old at bytes) ≡ max (length old) (at + length bytes)
length-overwritten old at bytes within = omega (arith, length-append (take at old ++ bytes) (drop (at + length bytes) old), length-append (take at old) bytes, length-drop (at + length bytes) old, length-take-le at old within)

-- bytes written just past a prefix go on from it
pub prefix-over : (front old bytes : List ℕ) (at : ℕ) → IsPrefix front old → at ≡ length front → IsPrefix (front ++ bytes) (overwritten old at bytes)
prefix-over [] old bytes zero p e = prefix_self bytes (drop (0 + length bytes) old)
prefix-over [] old bytes (suc at) p e = absurd (omega arith)
prefix-over (x ∷ front) [] bytes at p e = absurd p
prefix-over (x ∷ front) (y ∷ old) bytes zero p e = absurd (omega arith)
prefix-over (x ∷ front) (y ∷ old) bytes (suc at) p e =
    let next : suc at + length bytes ≡ suc (at + length bytes) = omega arith in
    (p.0, rw next (prefix-over front old bytes at p.1 (omega arith)))

-- what stood before the place stays
pub take-overwritten : (old : List ℕ) (at : ℕ) (bytes : List ℕ) → at ≤ length old → take at (overwritten old at bytes) ≡ take at old
take-overwritten old at bytes within =
    ap (λ l. take at l) (append_assoc (take at old) bytes (drop (at + length bytes) old)) ∙ take_at (take at old) (bytes ++ drop (at + length bytes) old) at (length-take-le at old within)

-- the bytes stand at the place
pub slice-overwritten : (old : List ℕ) (at : ℕ) (bytes : List ℕ) → at ≤ length old → take (length bytes) (drop at (overwritten old at bytes)) ≡ bytes
slice-overwritten old at bytes within =
    ap (λ l. take (length bytes) (drop at l)) (append_assoc (take at old) bytes (drop (at + length bytes) old))
    ∙ ap (λ l. take (length bytes) l) (drop_at (take at old) (bytes ++ drop (at + length bytes) old) at (length-take-le at old within))
    ∙ take_at bytes (drop (at + length bytes) old) (length bytes) refl

-- bytes written at the end are appended
pub overwritten_end : (old : List ℕ) (at : ℕ) (bytes : List ℕ) → at ≡ length old → overwritten old at bytes ≡ old ++ bytes
overwritten_end old at bytes e =
    ap (λ l. (l ++ bytes) ++ drop (at + length bytes) old) (take_all at old (omega arith))
    ∙ ap (λ l. (old ++ bytes) ++ l) (drop_all (at + length bytes) old (omega arith))
    ∙ append-nil (old ++ bytes)

-- ---- items of one width, one after the other

pub flat_map-append : {X : Type 0} (spell : X → List ℕ) (xs ys : List X) → flat_map spell (xs ++ ys) ≡ flat_map spell xs ++ flat_map spell ys
flat_map-append spell [] ys = refl
flat_map-append spell (x ∷ xs) ys = ap (λ r. spell x ++ r) (flat_map-append spell xs ys) ∙ sym (append_assoc (spell x) (flat_map spell xs) (flat_map spell ys))

pub prefix_more : {X : Type 0} (spell : X → List ℕ) (xs ys : List X) → IsPrefix (flat_map spell xs) (flat_map spell (xs ++ ys))
prefix_more spell xs ys = subst (λ l. IsPrefix (flat_map spell xs) l) (sym (flat_map-append spell xs ys)) (prefix_self (flat_map spell xs) (flat_map spell ys))

module _ {X : Type 0} (spell : X → List ℕ) (width : ℕ) (fixed : (x : X) → length (spell x) ≡ width) where
  pub length-flat_map : (xs : List X) → length (flat_map spell xs) ≡ width * length xs
  length-flat_map [] = omega arith
  length-flat_map (x ∷ xs) = omega (arith, length-append (spell x) (flat_map spell xs), fixed x, length-flat_map xs)

  -- a prefix of the bytes of items is those of the first ones, and less than one more
  pub whole_items : 0 < width → (bytes : List ℕ) (xs : List X) → IsPrefix bytes (flat_map spell xs) → (m : ℕ) × (tail : List ℕ) × (bytes ≡ flat_map spell (take m xs) ++ tail) × (length tail < width) × (m ≤ length xs)
  whole_items some [] [] p = (zero, [], refl, some, omega arith)
  whole_items some (x ∷ bytes) [] p = absurd p
  whole_items some bytes (e ∷ es) p = elim (cases_lt (length bytes) width) as (λ _. (m : ℕ) × (tail : List ℕ) × (bytes ≡ flat_map spell (take m (e ∷ es)) ++ tail) × (length tail < width) × (m ≤ length (e ∷ es))) [
    | inl short ↦ (zero, bytes, refl, short, omega arith)
    | inr long ↦
        let r = prefix-split bytes (spell e) (flat_map spell es) p (omega (arith, fixed e)) in
        let s = whole_items some r.0 es r.2 in
        (suc s.0, s.1, r.1 ∙ ap (λ l. spell e ++ l) s.2 ∙ sym (append_assoc (spell e) (flat_map spell (take s.0 es)) s.1), s.3, omega (arith, s.4))
  ]
