-- Runs that are laid one behind the other.
use Rattle.std.proofs.Common.{◌≡◌, ℕ, ◌+◌, ◌-◌, ◌<◌, ◌≤◌, List, [], ◌∷◌, ◌++◌, take, set, get_or, length, ap, ◌∙◌, sym, subst, arith}
use Rattle.std.proofs.lemmas.List.{take_more, take_more_set}
use Rattle.plain_file.specs.declared.pieces.Piece.{Piece}
use Rattle.plain_file.specs.Runs.{AreRuns, IsPiece, Joins}
use Rattle.interval_merge.specs.Sweep.{AllEndBy, Extends}
use Rattle.interval_merge.proofs.SweepLemmas.{Grown, Extends-first, Extends-push, Extends-grown}

-- the last of the first ones
pub last_laid : (items : List Piece) (count : ℕ) (l : Piece) → 0 < count → count ≤ length items → l ≡ get_or items (count - 1) l → take count items ≡ take (count - 1) items ++ l ∷ []
last_laid items count l some le is =
    let n : ℕ = count - 1 in
    let e : count ≡ n + 1 = omega arith in
    ap (λ k. take k items) e ∙ take_more items n l (omega arith) ∙ ap (λ p. take n items ++ p ∷ []) (sym is)

-- the last one grows
pub Extends-longer : (items : List Piece) (count : ℕ) (l p m : Piece) → 0 < count → count ≤ length items → l ≡ get_or items (count - 1) l → AreRuns (take count items)
    → AllEndBy p.at (take count items) → Joins l p → IsPiece p → Grown l m → m.len ≡ l.len + p.len → Extends (take count items) p (take count (set items (count - 1) m))
Extends-longer items count l p m some le is runs ends j piece g len =
    let n : ℕ = count - 1 in
    let e : count ≡ n + 1 = omega arith in
    let before : take count items ≡ take n items ++ l ∷ [] = last_laid items count l some le is in
    let after : take count (set items n m) ≡ take n items ++ m ∷ [] = ap (λ k. take k (set items n m)) e ∙ take_more_set items n m (omega arith) in
    let P : List Piece → Type 0 = λ ps. AreRuns ps in
    let Q : List Piece → Type 0 = λ ps. AllEndBy p.at ps in
    let R : List Piece → Type 0 = λ ps. Extends ps p (take count (set items n m)) in
    let S : List Piece → Type 0 = λ ps. Extends (take n items ++ l ∷ []) p ps in
    subst R (sym before) (subst S (sym after) (Extends-grown (take n items) l p m (subst P before runs) (subst Q before ends) j piece g len))

-- a piece is the first one
pub Extends-laid_first : (items : List Piece) (count : ℕ) (p : Piece) → count ≡ 0 → count < length items → IsPiece p → Extends (take count items) p (take (count + 1) (set items count p))
Extends-laid_first items count p e lt piece =
    let P : ℕ → Type 0 = λ n. Extends (take n items) p (take (n + 1) (set items n p)) in
    let Q : List Piece → Type 0 = λ ps. Extends [] p ps in
    subst P (sym e) (subst Q (sym (take_more_set items 0 p (omega arith))) (Extends-first p piece))

-- a piece comes behind the last one
pub Extends-laid_more : (items : List Piece) (count : ℕ) (l p : Piece) → 0 < count → count < length items → l ≡ get_or items (count - 1) l → AreRuns (take count items)
    → AllEndBy p.at (take count items) → (Joins l p → ⊥) → IsPiece p → Extends (take count items) p (take (count + 1) (set items count p))
Extends-laid_more items count l p some lt is runs ends apart piece =
    let n : ℕ = count - 1 in
    let before : take count items ≡ take n items ++ l ∷ [] = last_laid items count l some (omega arith) is in
    let after : take (count + 1) (set items count p) ≡ (take n items ++ l ∷ []) ++ p ∷ [] = take_more_set items count p lt ∙ ap (λ ps. ps ++ p ∷ []) before in
    let P : List Piece → Type 0 = λ ps. AreRuns ps in
    let Q : List Piece → Type 0 = λ ps. AllEndBy p.at ps in
    let R : List Piece → Type 0 = λ ps. Extends ps p (take (count + 1) (set items count p)) in
    let S : List Piece → Type 0 = λ ps. Extends (take n items ++ l ∷ []) p ps in
    subst R (sym before) (subst S (sym after) (Extends-push (take n items) l p (subst P before runs) (subst Q before ends) apart piece))
