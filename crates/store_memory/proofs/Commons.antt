-- What a file has in common with itself once a piece was laid over it.
use Rattle.std.proofs.Common.{◌≡◌, ℕ, zero, suc, ◌+◌, ◌≤◌, ◌<◌, true, false, nat_eq, List, [], ◌∷◌, ◌++◌, length, drop, min, refl, ap, arith}
use Rattle.std.specs.Prelude.{if◌then◌else◌}
use Rattle.std.proofs.lemmas.Bool.Decides.{nat_tests}
use Rattle.plfs_types.specs.Bytes.{overwritten}
use Rattle.store_api.specs.Kept.{common}

nothing_left : (a b : List ℕ) → length a ≤ 0 → common a b ≡ 0
nothing_left [] b l = refl
nothing_left (x ∷ a) b l = absurd (omega arith)

nothing_over : (a b : List ℕ) → length b ≤ 0 → common a b ≡ 0
nothing_over [] b l = refl
nothing_over (x ∷ a) [] l = refl
nothing_over (x ∷ a) (y ∷ b) l = absurd (omega arith)

-- past the end of one there is nothing in common
pub common_end : (a b : List ℕ) (i : ℕ) → min (length a) (length b) ≤ i → common (drop i a) (drop i b) ≡ 0
common_end [] b zero l = refl
common_end [] b (suc i) l = refl
common_end (x ∷ a) [] zero l = refl
common_end (x ∷ a) [] (suc i) l = nothing_over (drop i a) [] (omega arith)
common_end (x ∷ a) (y ∷ b) zero l = absurd (omega arith)
common_end (x ∷ a) (y ∷ b) (suc i) l = common_end a b i (omega arith)

itself : (x : ℕ) → nat_eq x x ≡ true
itself x = grind (arith, nat_tests)

common_itself : (a : List ℕ) → common a a ≡ length a
common_itself [] = refl
common_itself (x ∷ a) = rw (itself x) (omega (arith, common_itself a))

-- a piece that differs from what it covers
front_differs : (old piece : List ℕ) → common old piece < min (length old) (length piece) → common old (piece ++ drop (length piece) old) ≡ common old piece
front_differs [] piece l = absurd (omega arith)
front_differs (x ∷ old) [] l = absurd (omega arith)
front_differs (x ∷ old) (y ∷ piece) l = elim (nat_eq x y) as (λ t. (if t then common old piece + 1 else 0) < min (length (x ∷ old)) (length (y ∷ piece)) → (if t then common old (piece ++ drop (length piece) old) + 1 else 0) ≡ (if t then common old piece + 1 else 0)) [
  | true ↦ λ less. ap (λ n. n + 1) (front_differs old piece (omega (arith, less)))
  | false ↦ λ less. refl
] l

-- a piece that is as what it covers
front_agrees : (old piece : List ℕ) → common old piece ≡ min (length old) (length piece) → common old (piece ++ drop (length piece) old) ≡ length old
front_agrees [] piece e = refl
front_agrees (x ∷ old) [] e = common_itself (x ∷ old)
front_agrees (x ∷ old) (y ∷ piece) e = elim (nat_eq x y) as (λ t. (if t then common old piece + 1 else 0) ≡ min (length (x ∷ old)) (length (y ∷ piece)) → (if t then common old (piece ++ drop (length piece) old) + 1 else 0) ≡ length (x ∷ old)) [
  | true ↦ λ all. omega (arith, front_agrees old piece (omega (arith, all)))
  | false ↦ λ all. absurd (omega (arith, all))
] e

next : (at : ℕ) (piece : List ℕ) → suc at + length piece ≡ suc (at + length piece)
next at piece = omega arith

pub over_differs : (old : List ℕ) (at : ℕ) (piece : List ℕ) → at ≤ length old → common (drop at old) piece < min (length (drop at old)) (length piece) → common old (overwritten old at piece) ≡ at + common (drop at old) piece
over_differs [] zero piece l d = absurd (omega arith)
over_differs (x ∷ old) zero piece l d = let none : 0 + length piece ≡ length piece = omega arith in rw none (omega (arith, front_differs (x ∷ old) piece d))
over_differs [] (suc at) piece l d = absurd (omega arith)
over_differs (x ∷ old) (suc at) piece l d = rw (next at piece, itself x) (omega (arith, over_differs old at piece (omega arith) d))

pub over_agrees : (old : List ℕ) (at : ℕ) (piece : List ℕ) → at ≤ length old → common (drop at old) piece ≡ min (length (drop at old)) (length piece) → common old (overwritten old at piece) ≡ length old
over_agrees [] zero piece l e = refl
over_agrees (x ∷ old) zero piece l e = let none : 0 + length piece ≡ length piece = omega arith in rw none (front_agrees (x ∷ old) piece e)
over_agrees [] (suc at) piece l e = absurd (omega arith)
over_agrees (x ∷ old) (suc at) piece l e = rw (next at piece, itself x) (omega (arith, over_agrees old at piece (omega arith) e))
