-- What lower-case digits are worth, and the bytes that they say.
use Rattle.std.proofs.Common.{◌≡◌, ℕ, ◌+◌, ◌-◌, ◌*◌, ◌%◌, ◌<◌, ◌≤◌, ◌==◌, ◌&&◌, nat_le, Bool, true, false, List, [], ◌∷◌, ◌++◌, length, take, drop, slice_index, slice_set, Some, None, Ok, refl, sym, ◌∙◌, inl, inr, arith}
use Rattle.std.specs.Prelude.{All, map}
use Rattle.std.specs.List.{AllByRecursion, list_all}
use Rattle.std.proofs.lemmas.List.{append_assoc, append-nil, drop_all, drop_more, take_all, take_more_set}
use Rattle.std.proofs.lemmas.List.Elements.{All-from_recursion}
use Rattle.std.proofs.lemmas.Bool.{and_parts}
use Rattle.std.proofs.lemmas.Bool.Decides.{nat_tests}
use Rattle.hex.specs.Hex.{decode_pairs, hex_digit_value}
use Rattle.hex.proofs.Pairs.{drop-pair}
use Rattle.pack_input.specs.Digits.{digits_of, joined_halves, worth_of}
use Rattle.plfs_types.specs.Parts.{is_lower_digit}
use Rattle.pack_input.proofs.Digits.{in_ranges}

-- ---- one digit

low_worth : (c : ℕ) → 48 ≤ c → c ≤ 57 → hex_digit_value c ≡ Some (worth_of c)
low_worth c above below =
    let no_upper : nat_le 65 c ≡ false = grind (arith, nat_tests) in
    let no_letter : nat_le 97 c ≡ false = grind (arith, nat_tests) in
    let from : nat_le 48 c ≡ true = grind (arith, nat_tests) in
    let until : nat_le c 57 ≡ true = grind (arith, nat_tests) in
    let same : worth_of c ≡ c - 48 = omega arith in
    rw (no_upper, no_letter, from, until, same) refl

high_worth : (c : ℕ) → 97 ≤ c → c ≤ 102 → hex_digit_value c ≡ Some (worth_of c)
high_worth c above below =
    let upper : nat_le 65 c ≡ true = grind (arith, nat_tests) in
    let no_upper : nat_le c 70 ≡ false = grind (arith, nat_tests) in
    let from : nat_le 97 c ≡ true = grind (arith, nat_tests) in
    let until : nat_le c 102 ≡ true = grind (arith, nat_tests) in
    let same : worth_of c ≡ c - 87 = omega arith in
    rw (upper, no_upper, from, until, same) refl

digit_value : (c : ℕ) → is_lower_digit c ≡ true → hex_digit_value c ≡ Some (worth_of c)
digit_value c is =
    elim (in_ranges (nat_le 48 c && nat_le c 57) (nat_le 97 c && nat_le c 102) is) [
      | inl low ↦
          let limits = and_parts (nat_le 48 c) (nat_le c 57) low in
          let above : 48 ≤ c = let h = limits.0 in grind (arith, nat_tests) in
          let below : c ≤ 57 = let h = limits.1 in grind (arith, nat_tests) in
          low_worth c above below
      | inr high ↦
          let limits = and_parts (nat_le 97 c) (nat_le c 102) high in
          let above : 97 ≤ c = let h = limits.0 in grind (arith, nat_tests) in
          let below : c ≤ 102 = let h = limits.1 in grind (arith, nat_tests) in
          high_worth c above below
    ]

-- ---- halves

half_small : (digits : List ℕ) → AllByRecursion (λ (half : ℕ). half < 16) (map worth_of digits)
half_small [] = tt
half_small (c ∷ digits) = let small : worth_of c < 16 = omega arith in (small, half_small digits)

pub halves_small : (digits : List ℕ) → All (λ (half : ℕ). half < 16) (map worth_of digits)
halves_small digits = All-from_recursion (λ (half : ℕ). half < 16) (map worth_of digits) (half_small digits)

pub one_more_half : (digits halves : List ℕ) (i : ℕ) → i < length digits → i < length halves
    → map worth_of digits ≡ take i halves ++ map worth_of (drop i digits)
    → map worth_of digits ≡ take (i + 1) (slice_set halves i (worth_of (slice_index digits i))) ++ map worth_of (drop (i + 1) digits)
one_more_half digits halves i within room so_far =
    let more = take_more_set halves i (worth_of (slice_index digits i)) room in
    let rest = drop_more digits i 0 within in
    so_far ∙ rw (more, rest, append_assoc) refl

pub all_halves : (digits halves : List ℕ) (i : ℕ) → length halves ≤ i → length halves ≡ length digits
    → map worth_of digits ≡ take i halves ++ map worth_of (drop i digits) → halves ≡ map worth_of digits
all_halves digits halves i over same so_far =
    let none = drop_all i digits (omega (arith, over, same)) in
    let whole = take_all i halves over in
    sym (so_far ∙ rw (none, whole, append-nil) refl)

-- ---- bytes

pub one_more_byte : (halves bytes : List ℕ) (i : ℕ) → 2 * i + 1 < length halves → i < length bytes
    → joined_halves halves ≡ take i bytes ++ joined_halves (drop (2 * i) halves)
    → joined_halves halves ≡ take (i + 1) (slice_set bytes i (slice_index halves (2 * i) * 16 + slice_index halves (2 * i + 1))) ++ joined_halves (drop (2 * (i + 1)) halves)
one_more_byte halves bytes i within room so_far =
    let more = take_more_set bytes i (slice_index halves (2 * i) * 16 + slice_index halves (2 * i + 1)) room in
    let pair = drop-pair halves i within in
    so_far ∙ rw (more, pair, append_assoc) refl

pub all_bytes : (halves bytes : List ℕ) (i : ℕ) → length bytes ≤ i → length halves ≡ 2 * length bytes
    → joined_halves halves ≡ take i bytes ++ joined_halves (drop (2 * i) halves) → bytes ≡ joined_halves halves
all_bytes halves bytes i over twice so_far =
    let none = drop_all (2 * i) halves (omega (arith, over, twice)) in
    let whole = take_all i bytes over in
    sym (so_far ∙ rw (none, whole, append-nil) refl)

-- lower-case digits, two a byte, decode to the bytes of what they are worth
pub joined_decode : (digits : List ℕ) (at : ℕ) → list_all is_lower_digit digits ≡ true → length digits % 2 ≡ 0 → decode_pairs at digits ≡ Ok (joined_halves (map worth_of digits))
unfolding decode_pairs
joined_decode [] at all even = refl
joined_decode (a ∷ []) at all even = absurd (omega arith)
joined_decode (a ∷ b ∷ digits) at all even =
    let first = and_parts (is_lower_digit a) (is_lower_digit b && list_all is_lower_digit digits) all in
    let second = and_parts (is_lower_digit b) (list_all is_lower_digit digits) first.1 in
    let high = digit_value a first.0 in
    let low = digit_value b second.0 in
    let rest = joined_decode digits (at + 2) second.1 (omega arith) in
    rw (high, low, rest) refl

-- an odd number of digits says nothing
pub odd_digits : (word : List ℕ) → length word % 2 ≡ 1 → digits_of word ≡ None
odd_digits word odd = at_odds (list_all is_lower_digit word) refl
  where
    at_odds : (all : Bool) → list_all is_lower_digit word ≡ all → digits_of word ≡ None
    at_odds true is =
        let uneven : (length word % 2 == 1) ≡ true = grind (arith, nat_tests) in
        rw (is, uneven) refl
    at_odds false is = rw is refl
