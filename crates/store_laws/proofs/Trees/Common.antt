-- How many first bytes two files have in common.
use Rattle.std.proofs.Common.{◌≡◌, ◌≤◌, ℕ, suc, true, false, nat_eq, List, [], ◌∷◌, length, take, min, refl, ap, sym, ◌∙◌, subst, arith}
use Rattle.std.specs.Prelude.{◌+◌, if◌then◌else◌}
use Rattle.std.proofs.lemmas.Bool.Decides.{nat_tests}
use Rattle.std.proofs.lemmas.List.{length-take-le}
use Rattle.plfs_types.specs.Bytes.{overwritten}
use Rattle.store_api.specs.Kept.{common, kept_after}
use Rattle.store_laws.specs.Prefix.{IsPrefix}
use Rattle.store_laws.proofs.Steps.Overwriting.{prefix_take, take-overwritten}

itself : (x y : ℕ) → x ≡ y → nat_eq x y ≡ true
itself x y e = grind (arith, nat_tests)

equal : (x y : ℕ) → nat_eq x y ≡ true → x ≡ y
equal x y e = grind (arith, nat_tests)

-- each common front is at most what is common
pub common_longest : (front old new : List ℕ) → IsPrefix front old → IsPrefix front new → length front ≤ common old new
common_longest [] old new p q = omega arith
common_longest (f ∷ front) [] new p q = absurd p
common_longest (f ∷ front) (x ∷ old) [] p q = absurd q
common_longest (f ∷ front) (x ∷ old) (y ∷ new) p q = rw (itself x y (sym p.0 ∙ q.0)) (omega (arith, common_longest front old new p.1 q.1))

take_next : {A : Type 0} (n : ℕ) (x : A) (xs : List A) → take (n + 1) (x ∷ xs) ≡ x ∷ take n xs
take_next n x xs = let e : n + 1 ≡ suc n = omega arith in rw e refl

-- what is common is the same in both
pub common_same : (old new : List ℕ) → take (common old new) old ≡ take (common old new) new
common_same [] [] = refl
common_same [] (y ∷ new) = refl
common_same (x ∷ old) [] = refl
common_same (x ∷ old) (y ∷ new) = elim (nat_eq x y) as (λ b. nat_eq x y ≡ b → take (if b then common old new + 1 else 0) (x ∷ old) ≡ take (if b then common old new + 1 else 0) (y ∷ new)) [
  | true ↦ λ e. take_next (common old new) x old ∙ ap (λ l. x ∷ l) (common_same old new) ∙ ap (λ z. z ∷ take (common old new) new) (equal x y e) ∙ sym (take_next (common old new) y new)
  | false ↦ λ e. refl
] refl

-- what stands before the place of a write stays kept
pub kept_before : (kept : ℕ) (old : List ℕ) (at : ℕ) (bytes : List ℕ) → at ≤ length old → min kept at ≤ kept_after kept old (overwritten old at bytes)
kept_before kept old at bytes within =
    let front : IsPrefix (take at old) (overwritten old at bytes) = subst (λ l. IsPrefix l (overwritten old at bytes)) (take-overwritten old at bytes within) (prefix_take at (overwritten old at bytes)) in
    omega (arith, common_longest (take at old) old (overwritten old at bytes) (prefix_take at old) front, length-take-le at old within)

-- a kept front of both stays kept
pub kept_front : (kept : ℕ) (front old new : List ℕ) → length front ≤ kept → IsPrefix front old → IsPrefix front new → length front ≤ kept_after kept old new
kept_front kept front old new some p q = omega (arith, common_longest front old new p q)
