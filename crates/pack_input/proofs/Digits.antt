-- Lower-case digits are what is printed of bytes.
use Rattle.std.proofs.Common.{◌≡◌, ℕ, zero, suc, ◌+◌, ◌-◌, ◌*◌, ◌/◌, ◌%◌, ◌<◌, ◌≤◌, ◌&&◌, ◌||◌, nat_le, Bool, true, false, List, [], ◌∷◌, length, get_or, refl, ◌∙◌, inl, inr, arith}
use Rattle.std.specs.Prelude.{◌⊎◌}
use Rattle.std.specs.List.{list_all}
use Rattle.std.proofs.lemmas.Bool.{and_parts}
use Rattle.std.proofs.lemmas.Bool.Decides.{nat_tests}
use Rattle.hex.specs.Hex.{encode_with, encode_lower, lower_digits, IsBytes}
use Rattle.plfs_types.specs.Parts.{is_lower_digit}

low_digit : (k : ℕ) → k < 10 → get_or lower_digits k 0 ≡ 48 + k
low_digit zero small = refl
low_digit (suc zero) small = refl
low_digit (suc (suc zero)) small = refl
low_digit (suc (suc (suc zero))) small = refl
low_digit (suc (suc (suc (suc zero)))) small = refl
low_digit (suc (suc (suc (suc (suc zero))))) small = refl
low_digit (suc (suc (suc (suc (suc (suc zero)))))) small = refl
low_digit (suc (suc (suc (suc (suc (suc (suc zero))))))) small = refl
low_digit (suc (suc (suc (suc (suc (suc (suc (suc zero)))))))) small = refl
low_digit (suc (suc (suc (suc (suc (suc (suc (suc (suc zero))))))))) small = refl
low_digit (suc (suc (suc (suc (suc (suc (suc (suc (suc (suc k)))))))))) small = absurd (omega arith)

high_digit : (k : ℕ) → k < 6 → get_or lower_digits (10 + k) 0 ≡ 97 + k
high_digit zero small = refl
high_digit (suc zero) small = refl
high_digit (suc (suc zero)) small = refl
high_digit (suc (suc (suc zero))) small = refl
high_digit (suc (suc (suc (suc zero)))) small = refl
high_digit (suc (suc (suc (suc (suc zero))))) small = refl
high_digit (suc (suc (suc (suc (suc (suc k)))))) small = absurd (omega arith)

pub in_ranges : (a b : Bool) → (a || b) ≡ true → (a ≡ true) ⊎ (b ≡ true)
in_ranges true b is = inl refl
in_ranges false b is = inr is

-- a lower-case digit stands for a number below 16
digit_worth : (c : ℕ) → is_lower_digit c ≡ true → (v : ℕ) × (v < 16) × (get_or lower_digits v 0 ≡ c)
digit_worth c is =
    elim (in_ranges (nat_le 48 c && nat_le c 57) (nat_le 97 c && nat_le c 102) is) [
      | inl low ↦
          let limits = and_parts (nat_le 48 c) (nat_le c 57) low in
          let above : 48 ≤ c = let h = limits.0 in grind (arith, nat_tests) in
          let below : c ≤ 57 = let h = limits.1 in grind (arith, nat_tests) in
          (c - 48, omega arith, low_digit (c - 48) (omega arith) ∙ (let same : 48 + (c - 48) ≡ c = omega arith in same))
      | inr high ↦
          let limits = and_parts (nat_le 97 c) (nat_le c 102) high in
          let above : 97 ≤ c = let h = limits.0 in grind (arith, nat_tests) in
          let below : c ≤ 102 = let h = limits.1 in grind (arith, nat_tests) in
          (10 + (c - 97), omega arith, high_digit (c - 97) (omega arith) ∙ (let same : 97 + (c - 97) ≡ c = omega arith in same))
    ]

-- pairs of lower-case digits are what is printed of bytes
pub lower_pairs : (digits : List ℕ) → list_all is_lower_digit digits ≡ true → length digits % 2 ≡ 0 → (bytes : List ℕ) × IsBytes bytes × (encode_lower bytes ≡ digits)
unfolding encode_with
lower_pairs [] all even = ([], λ i. omega arith, refl)
lower_pairs (a ∷ []) all even = absurd (omega arith)
lower_pairs (a ∷ b ∷ digits) all even =
    let first = and_parts (is_lower_digit a) (is_lower_digit b && list_all is_lower_digit digits) all in
    let second = and_parts (is_lower_digit b) (list_all is_lower_digit digits) first.1 in
    let high = digit_worth a first.0 in
    let low = digit_worth b second.0 in
    let rest = lower_pairs digits second.1 (omega arith) in
    let byte : 16 * high.0 + low.0 < 256 = omega arith in
    let top : (16 * high.0 + low.0) / 16 ≡ high.0 = omega arith in
    let bottom : (16 * high.0 + low.0) % 16 ≡ low.0 = omega arith in
    ((16 * high.0 + low.0) ∷ rest.0, in_front (16 * high.0 + low.0) rest.0 byte rest.1, rw (top, bottom, high.2, low.2, rest.2) refl)
  where
    in_front : (n : ℕ) (others : List ℕ) → n < 256 → IsBytes others → IsBytes (n ∷ others)
    in_front n others small each zero = small
    in_front n others small each (suc i) = each i
