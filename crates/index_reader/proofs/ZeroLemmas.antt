-- Zeros that are added in parts.
use Rattle.std.proofs.Common.{◌≡◌, ◌≤◌, ◌++◌, ◌-◌, ◌∙◌, ℕ, List, ap}
use Rattle.std.specs.Prelude.{replicate, take}
use Rattle.std.proofs.lemmas.List.{append_assoc, replicate-append-replicate, take-replicate}
use Rattle.std.proofs.Math.Nat.{add-sub_of_le}

-- the first of so many zeros
pub zeros_taken : (few many : ℕ) → few ≤ many → take few (replicate {A = ℕ} many 0) ≡ replicate few 0
zeros_taken few many within = take-replicate few many 0 within

-- some of the zeros that are left, and then the others
pub zeros_left : (bytes : List ℕ) (some left : ℕ) → some ≤ left → (bytes ++ replicate some 0) ++ replicate (left - some) 0 ≡ bytes ++ replicate left 0
zeros_left bytes some left within =
    append_assoc bytes (replicate some 0) (replicate (left - some) 0)
    ∙ ap (λ zeros. bytes ++ zeros) (replicate-append-replicate some (left - some) 0 ∙ ap (λ count. replicate count 0) (add-sub_of_le within))
