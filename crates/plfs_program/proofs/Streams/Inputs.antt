-- What is read of one told input to its end are the same bytes, whoever reads it.
use Rattle.std.proofs.Common.{◌≡◌, ℕ, ◌+◌, ◌≤◌, ◌⊎◌, inl, inr, List, [], ◌∷◌, ◌++◌, length, Option, Some, refl, sym, ap, ◌∙◌, subst, arith}
use Rattle.std.proofs.lemmas.List.{append-nil, length-append}
use Rattle.edge_io.specs.Source.{Given, HandsOver}
use Rattle.plfs_program.specs.Input.{IsWholeInput}
use Rattle.edge_io.specs.Source.{IsAtEnd}

front_one : (a b r s : List ℕ) → length a ≡ length b → a ++ r ≡ b ++ s → a ≡ b
front_one [] [] r s long e = refl
front_one [] (y ∷ b) r s long e = absurd (omega (arith, long))
front_one (x ∷ a) [] r s long e = absurd (omega (arith, long))
front_one (x ∷ a) (y ∷ b) r s long e =
    let head : x ≡ y = cc in
    let tail : a ++ r ≡ b ++ s = cc in
    let shorter : length a ≡ length b = omega (arith, long) in
    let rest = front_one a b r s shorter tail in
    λ i. head i ∷ rest i

-- what was read of a told source, and what is left of it
record Read (limit : ℕ) (input bytes : List ℕ) : Type 0 where
  rest : List ℕ
  whole : input ≡ bytes ++ rest
  within : length bytes ≤ limit
  to_end : (length bytes ≡ limit) ⊎ (length rest ≡ 0)

at_end : (left : Option (List ℕ)) (rest : List ℕ) → left ≡ Some rest → IsAtEnd left → length rest ≡ 0
at_end left rest is end = ap length (subst IsAtEnd is end)

read_so : (limit : ℕ) (input bytes : List ℕ) (given after : Given) → given.left ≡ Some input → IsWholeInput limit bytes given after → Read limit input bytes
read_so limit input bytes given after told w =
    let handed : HandsOver bytes (Some input) after.left = subst (λ o. HandsOver bytes o after.left) told w.handed in
    record {
      rest = handed.0;
      whole = handed.2;
      within = w.within;
      to_end = elim w.to_end as (λ _. (length bytes ≡ limit) ⊎ (length handed.0 ≡ 0)) [
        | inl full ↦ inl full
        | inr end ↦ inr (at_end after.left handed.0 handed.1 end)
      ];
    }

lengths : (limit a b r s : ℕ) → a + r ≡ b + s → a ≤ limit → b ≤ limit → (a ≡ limit) ⊎ (r ≡ 0) → (b ≡ limit) ⊎ (s ≡ 0) → a ≡ b
lengths limit a b r s same x y (inl p) (inl q) = omega (arith, p, q)
lengths limit a b r s same x y (inl p) (inr q) = omega (arith, same, x, y, p, q)
lengths limit a b r s same x y (inr p) (inl q) = omega (arith, same, x, y, p, q)
lengths limit a b r s same x y (inr p) (inr q) = omega (arith, same, p, q)

read_one : (limit : ℕ) (input a b : List ℕ) → Read limit input a → Read limit input b → a ≡ b
read_one limit input a b x y =
    let same : a ++ x.rest ≡ b ++ y.rest = sym x.whole ∙ y.whole in
    let long : length a + length x.rest ≡ length b + length y.rest = sym (length-append a x.rest) ∙ ap length same ∙ length-append b y.rest in
    front_one a b x.rest y.rest (lengths limit (length a) (length b) (length x.rest) (length y.rest) long x.within y.within x.to_end y.to_end) same

-- two runs read the same of one told input
pub input_one : (limit : ℕ) (input a b : List ℕ) (given after another later : Given) → given.left ≡ Some input → another.left ≡ Some input → IsWholeInput limit a given after → IsWholeInput limit b another later → a ≡ b
input_one limit input a b given after another later told told_too x y = read_one limit input a b (read_so limit input a given after told x) (read_so limit input b another later told_too y)

-- what is read of an input that is shorter than the limit is the whole of it
pub whole_input : (limit : ℕ) (input bytes : List ℕ) (given after : Given) → given.left ≡ Some input → length input ≤ limit → IsWholeInput limit bytes given after → bytes ≡ input
whole_input limit input bytes given after told short w = read_one limit input bytes input (read_so limit input bytes given after told w) (record { rest = []; whole = sym (append-nil input); within = short; to_end = inr refl })
