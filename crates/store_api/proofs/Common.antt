-- How many first bytes two files have in common.
use Rattle.std.proofs.Common.{◌≤◌, ℕ, true, false, nat_eq, List, [], ◌∷◌, length, min, arith}
use Rattle.std.specs.Prelude.{◌+◌, if◌then◌else◌}
use Rattle.store_api.specs.Kept.{common}

-- there is no more in common than both have
pub common_within : (old new : List ℕ) → common old new ≤ min (length old) (length new)
common_within [] new = omega arith
common_within (x ∷ old) [] = omega arith
common_within (x ∷ old) (y ∷ new) = elim (nat_eq x y) as (λ t. (if t then common old new + 1 else 0) ≤ min (length (x ∷ old)) (length (y ∷ new))) [
  | true ↦ omega (arith, common_within old new)
  | false ↦ omega arith
]
