-- What is found among numbers and names.
use Rattle.std.proofs.Common.{◌≡◌, ℕ, zero, suc, ◌<◌, inl, inr, ◌==◌, true, List, [], ◌∷◌, Option, None, Some, refl, ap, ◌∙◌, sym, arith}
use Rattle.std.proofs.lemmas.Bool.{cases_lt, and_from, and_parts}
use Rattle.std.proofs.lemmas.Bool.Decides.{nat_tests}
use Rattle.plain_file.proofs.Facts.{cases_Option}
use Rattle.mount_model.specs.Names.{find_below}
use Rattle.index_reader.specs.Searching.{same_bytes}

pub same_bytes-itself : (xs : List ℕ) → same_bytes xs xs ≡ true
same_bytes-itself [] = refl
same_bytes-itself (x ∷ xs) = let e : (x == x) ≡ true = grind (arith, nat_tests) in and_from (x == x) (same_bytes xs xs) e (same_bytes-itself xs)

pub same_bytes-eq : (xs ys : List ℕ) → same_bytes xs ys ≡ true → xs ≡ ys
same_bytes-eq [] [] h = refl
same_bytes-eq [] (y ∷ ys) h = absurd (cc)
same_bytes-eq (x ∷ xs) [] h = absurd (cc)
same_bytes-eq (x ∷ xs) (y ∷ ys) h =
    let parts = and_parts (x == y) (same_bytes xs ys) h in
    let first : x ≡ y = grind (arith, nat_tests, parts.0) in
    let rest : xs ≡ ys = same_bytes-eq xs ys parts.1 in
    cc

pub found_below : {X : Type 0} (f : ℕ → Option X) (n : ℕ) (x : X) → find_below f n ≡ Some x → (k : ℕ) × (k < n) × (f k ≡ Some x)
found_below f zero x h = absurd (cc)
found_below f (suc n) x h = elim (cases_Option (find_below f n)) [
  | inl none ↦ (let e : find_below f (suc n) ≡ f n = cc in (n, omega arith, sym e ∙ h))
  | inr some ↦ (let e : find_below f (suc n) ≡ Some some.0 = cc in
      let rest = found_below f n x (some.1 ∙ sym e ∙ h) in (rest.0, omega (arith, rest.1), rest.2))
]

pub none_below : {X : Type 0} (f : ℕ → Option X) (n k : ℕ) → find_below f n ≡ None → k < n → f k ≡ None
none_below f zero k h l = absurd (omega arith)
none_below f (suc n) k h l = elim (cases_Option (find_below f n)) [
  | inl none ↦ elim (cases_lt k n) [
    | inl before ↦ none_below f n k none before
    | inr last ↦ (let at : k ≡ n = omega arith in let e : find_below f (suc n) ≡ f n = cc in ap f at ∙ sym e ∙ h)
  ]
  | inr some ↦ absurd (cc)
]
