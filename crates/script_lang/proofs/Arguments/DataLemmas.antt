-- Data in words: what is written is read, and what is read is so written.
use Rattle.std.proofs.Common.{◌≡◌, ℕ, zero, suc, ◌+◌, ◌-◌, ◌/◌, ◌%◌, ◌*◌, ◌^◌, ◌<◌, ◌≤◌, ◌==◌, ◌&&◌, ◌||◌, nat_le, not, Bool, true, false, cond, List, [], ◌∷◌, ◌++◌, length, get_or, take, drop, Result, Ok, Err, refl, sym, ap, ◌∙◌, inl, inr, arith, take-append-drop}
use Rattle.std.specs.Prelude.{nat_eq, codes, ◌⊎◌}
use Rattle.std.specs.Char.{is_ascii_digit}
use Rattle.std.specs.Str.{all_ascii_digits}
use Rattle.std.specs.Fmt.{decimal}
use Rattle.std.specs.List.{list_all, starts_with, position_or_len, before_first, after_first}
use Rattle.std.specs.Cmp.Lexicographic.{same_text}
use Rattle.std.proofs.Math.ListN.{drop_of_length-le}
use Rattle.std.proofs.Math.Seq.{take-append_seam, drop-append-add}
use Rattle.std.proofs.lemmas.Bool.Decides.{nat_tests}
use Rattle.std.proofs.lemmas.Fmt.{digits_decimal, decimal_nonempty}
use Rattle.std.proofs.lemmas.List.Sums.{AllPass-from_list_all, split_at_first, passes_at_first}
use Rattle.hex.specs.declared.error.FromHexError.{FromHexError}
use Rattle.hex.specs.Hex.{encode_with, encode_lower, decode_of, lower_digits, IsBytes}
use Rattle.hex.proofs.HexLemmas.{decode_of-encode_lower, decode_of-ok}
use Rattle.script_lang.specs.declared.script.Data.{Data}
use Rattle.script_lang.specs.declared.script.Data.TheVariants as data_of
use Rattle.script_lang.specs.declared.trouble.Kind.{Kind}
use Rattle.script_lang.specs.declared.trouble.Kind.TheVariants as kinds
use Rattle.script_lang.specs.Data.{decoded, hex_data, text_data, length_and_byte, pair_data, counted_data, data_in}
use Rattle.plfs_types.specs.Parts.{is_lower_digit}
use Rattle.script_lang.specs.Numbers.{number_within}
use Rattle.script_lang.specs.Spelling.{is_seen, data_word, IsData}
use Rattle.script_lang.proofs.Arguments.Decimals.{own}
use Rattle.script_lang.proofs.Arguments.NumberLemmas.{number_again, number_found}

-- ---- what is written is read

digit_is_lower : (n : ℕ) → n < 16 → is_lower_digit (get_or lower_digits n 0) ≡ true
digit_is_lower n small = AllPass-from_list_all is_lower_digit lower_digits refl n 0 small

both : (a b c : Bool) → a ≡ true → b ≡ true → c ≡ true → (a && (b && c)) ≡ true
both a b c ha hb hc = rw (ha, hb, hc) refl

digits_are_lower : (bytes : List ℕ) → IsBytes bytes → list_all is_lower_digit (encode_with lower_digits bytes) ≡ true
unfolding encode_with
digits_are_lower [] fits = refl
digits_are_lower (b ∷ bytes) fits =
    let byte : b < 256 = fits 0 in
    both (is_lower_digit (get_or lower_digits (b / 16) 0)) (is_lower_digit (get_or lower_digits (b % 16) 0)) (list_all is_lower_digit (encode_with lower_digits bytes))
    (digit_is_lower (b / 16) (omega arith)) (digit_is_lower (b % 16) (omega arith)) (digits_are_lower bytes (λ i. fits (suc i)))

hex_again : (bytes : List ℕ) → IsBytes bytes → hex_data (encode_lower bytes) ≡ Ok (data_of.Hex bytes)
hex_again bytes fits = rw (digits_are_lower bytes fits, decode_of-encode_lower bytes fits) refl

halves : (a b : Bool) → (a && b) ≡ true → (a ≡ true) × (b ≡ true)
halves true b is = (refl, is)
halves false b is = cc

no_colon : (d n m : ℕ) → is_ascii_digit d ≡ true → n ≡ m → cond (not (d == 58)) (1 + n) 0 ≡ suc m
no_colon d n m digit same =
    let other : (d == 58) ≡ false = grind (arith, nat_tests) in
    rw other (omega arith)

colon_at : (ds rest : List ℕ) → all_ascii_digits ds ≡ true → position_or_len (λ b. b == 58) (ds ++ 58 ∷ rest) ≡ length ds
colon_at [] rest digits = refl
colon_at (d ∷ ds) rest digits =
    let each = halves (is_ascii_digit d) (all_ascii_digits ds) digits in
    no_colon d (position_or_len (λ b. b == 58) (ds ++ 58 ∷ rest)) (length ds) each.0 (colon_at ds rest each.1)

before_colon : (ds rest : List ℕ) → all_ascii_digits ds ≡ true → before_first (λ b. b == 58) (ds ++ 58 ∷ rest) ≡ ds
before_colon ds rest digits = rw (colon_at ds rest digits) (take-append_seam ds (58 ∷ rest))

after_colon : (ds rest : List ℕ) → all_ascii_digits ds ≡ true → after_first (λ b. b == 58) (ds ++ 58 ∷ rest) ≡ rest
after_colon ds rest digits = rw (colon_at ds rest digits) (drop-append-add ds (58 ∷ rest) 1)

pair_again : (made : ℕ → ℕ → Data) (len byte : ℕ) → len ≤ 2 ^ 24 → byte ≤ 255 → pair_data made (decimal len ++ 58 ∷ decimal byte) ≡ Ok (made len byte)
pair_again made len byte short small =
    let digits = digits_decimal own len (omega arith) in
    rw (before_colon (decimal len) (decimal byte) digits, after_colon (decimal len) (decimal byte) digits, number_again 0 (2 ^ 24) len (omega arith) (omega arith) short, number_again 0 255 byte (omega arith) (omega arith) small) refl

pub data_again : (content : Data) → IsData content → data_in (data_word content) ≡ Ok content
data_again (data_of.Hex bytes) fits = hex_again bytes fits
data_again (data_of.Text bytes) fits = rw fits refl
data_again (data_of.Fill len byte) fits = pair_again data_of.Fill len byte fits.0 fits.1
data_again (data_of.Ramp len first) fits = pair_again data_of.Ramp len first fits.0 fits.1

-- ---- what is read is so written

low_digit : (k : ℕ) → k < 10 → get_or lower_digits k 0 ≡ 48 + k
low_digit zero small = refl
low_digit (suc zero) small = refl
low_digit (suc (suc zero)) small = refl
low_digit (suc (suc (suc zero))) small = refl
low_digit (suc (suc (suc (suc zero)))) small = refl
low_digit (suc (suc (suc (suc (suc zero))))) small = refl
low_digit (suc (suc (suc (suc (suc (suc zero)))))) small = refl
low_digit (suc (suc (suc (suc (suc (suc (suc zero))))))) small = refl
low_digit (suc (suc (suc (suc (suc (suc (suc (suc zero)))))))) small = refl
low_digit (suc (suc (suc (suc (suc (suc (suc (suc (suc zero))))))))) small = refl
low_digit (suc (suc (suc (suc (suc (suc (suc (suc (suc (suc k)))))))))) small = absurd (omega arith)

high_digit : (k : ℕ) → k < 6 → get_or lower_digits (10 + k) 0 ≡ 97 + k
high_digit zero small = refl
high_digit (suc zero) small = refl
high_digit (suc (suc zero)) small = refl
high_digit (suc (suc (suc zero))) small = refl
high_digit (suc (suc (suc (suc zero)))) small = refl
high_digit (suc (suc (suc (suc (suc zero))))) small = refl
high_digit (suc (suc (suc (suc (suc (suc k)))))) small = absurd (omega arith)

in_ranges : (a b : Bool) → (a || b) ≡ true → (a ≡ true) ⊎ (b ≡ true)
in_ranges true b is = inl refl
in_ranges false b is = inr is

-- a lower-case digit stands for a number below 16
digit_worth : (c : ℕ) → is_lower_digit c ≡ true → (v : ℕ) × (v < 16) × (get_or lower_digits v 0 ≡ c)
digit_worth c is =
    elim (in_ranges (nat_le 48 c && nat_le c 57) (nat_le 97 c && nat_le c 102) is) [
      | inl low ↦
          let limits = halves (nat_le 48 c) (nat_le c 57) low in
          let above : 48 ≤ c = let h = limits.0 in grind (arith, nat_tests) in
          let below : c ≤ 57 = let h = limits.1 in grind (arith, nat_tests) in
          (c - 48, omega arith, low_digit (c - 48) (omega arith) ∙ (let same : 48 + (c - 48) ≡ c = omega arith in same))
      | inr high ↦
          let limits = halves (nat_le 97 c) (nat_le c 102) high in
          let above : 97 ≤ c = let h = limits.0 in grind (arith, nat_tests) in
          let below : c ≤ 102 = let h = limits.1 in grind (arith, nat_tests) in
          (10 + (c - 97), omega arith, high_digit (c - 97) (omega arith) ∙ (let same : 97 + (c - 97) ≡ c = omega arith in same))
    ]

-- pairs of lower-case digits are what is printed of bytes
lower_pairs : (digits : List ℕ) → list_all is_lower_digit digits ≡ true → length digits % 2 ≡ 0 → (bytes : List ℕ) × IsBytes bytes × (encode_lower bytes ≡ digits)
unfolding encode_with
lower_pairs [] all even = ([], λ i. omega arith, refl)
lower_pairs (a ∷ []) all even = absurd (omega arith)
lower_pairs (a ∷ b ∷ digits) all even =
    let first = halves (is_lower_digit a) (is_lower_digit b && list_all is_lower_digit digits) all in
    let second = halves (is_lower_digit b) (list_all is_lower_digit digits) first.1 in
    let high = digit_worth a first.0 in
    let low = digit_worth b second.0 in
    let rest = lower_pairs digits second.1 (omega arith) in
    let byte : 16 * high.0 + low.0 < 256 = omega arith in
    let top : (16 * high.0 + low.0) / 16 ≡ high.0 = omega arith in
    let bottom : (16 * high.0 + low.0) % 16 ≡ low.0 = omega arith in
    ((16 * high.0 + low.0) ∷ rest.0, in_front (16 * high.0 + low.0) rest.0 byte rest.1, rw (top, bottom, high.2, low.2, rest.2) refl)
  where
    in_front : (n : ℕ) (others : List ℕ) → n < 256 → IsBytes others → IsBytes (n ∷ others)
    in_front n others small each zero = small
    in_front n others small each (suc i) = each i

decoded_ok : (read : Result (List ℕ) FromHexError) (content : Data) → decoded read ≡ Ok content → (bytes : List ℕ) × (read ≡ Ok bytes) × (data_of.Hex bytes ≡ content)
decoded_ok (Ok bytes) content is = let same : data_of.Hex bytes ≡ content = cc in (bytes, refl, same)
decoded_ok (Err failed) content is = cc

hex_found : (digits : List ℕ) (content : Data) → hex_data digits ≡ Ok content → IsData content × (codes "hex:" ++ digits ≡ data_word content)
hex_found digits content is = by (list_all is_lower_digit digits) refl is
  where
    by : (all : Bool) → list_all is_lower_digit digits ≡ all → cond all (decoded (decode_of digits)) (Err kinds.Data) ≡ Ok content → IsData content × (codes "hex:" ++ digits ≡ data_word content)
    by false lower read = cc
    by true lower read =
        let found = decoded_ok (decode_of digits) content read in
        let ok = decode_of-ok digits found.0 found.1 in
        let pairs = lower_pairs digits lower ok.0 in
        let again : decode_of digits ≡ Ok pairs.0 = ap decode_of (sym pairs.2) ∙ decode_of-encode_lower pairs.0 pairs.1 in
        let same : pairs.0 ≡ found.0 = cc in
        rw (← found.2) (ok.3, ap (λ (ds : List ℕ). codes "hex:" ++ ds) (sym pairs.2 ∙ ap encode_lower same))

text_found : (bytes : List ℕ) (content : Data) → text_data bytes ≡ Ok content → IsData content × (codes "text:" ++ bytes ≡ data_word content)
text_found bytes content is = by (list_all is_seen bytes) refl is
  where
    by : (all : Bool) → list_all is_seen bytes ≡ all → cond all (Ok (data_of.Text bytes)) (Err kinds.Data) ≡ Ok content → IsData content × (codes "text:" ++ bytes ≡ data_word content)
    by false seen read = cc
    by true seen read = let same : data_of.Text bytes ≡ content = cc in rw (← same) (seen, refl)

pair_ok : (made : ℕ → ℕ → Data) (r s : Result ℕ Kind) (content : Data) → length_and_byte made r s ≡ Ok content → (len : ℕ) × (byte : ℕ) × (r ≡ Ok len) × (s ≡ Ok byte) × (made len byte ≡ content)
pair_ok made (Ok len) (Ok byte) content is = let same : made len byte ≡ content = cc in (len, byte, refl, refl, same)
pair_ok made (Ok len) (Err kind) content is = cc
pair_ok made (Err kind) s content is = cc

has_colon : (pair : List ℕ) → 0 < length (after_first (λ b. b == 58) pair) → position_or_len (λ b. b == 58) pair < length pair
has_colon pair some = by (nat_le (length pair) (position_or_len (λ b. b == 58) pair)) refl
  where
    by : (none : Bool) → nat_le (length pair) (position_or_len (λ b. b == 58) pair) ≡ none → position_or_len (λ b. b == 58) pair < length pair
    by false is = grind (arith, nat_tests)
    by true is =
        let past : length pair ≤ position_or_len (λ b. b == 58) pair + 1 = let h : length pair ≤ position_or_len (λ b. b == 58) pair = grind (arith, nat_tests) in omega arith in
        let none : length (after_first (λ b. b == 58) pair) ≡ 0 = ap length (drop_of_length-le pair past) in
        absurd (omega arith)

pair_found : (made : ℕ → ℕ → Data) (pair : List ℕ) (content : Data) → pair_data made pair ≡ Ok content → (len : ℕ) × (byte : ℕ) × (len ≤ 2 ^ 24) × (byte ≤ 255) × (pair ≡ decimal len ++ 58 ∷ decimal byte) × (made len byte ≡ content)
pair_found made pair content is =
    let parts = pair_ok made (number_within 0 (2 ^ 24) (before_first (λ b. b == 58) pair)) (number_within 0 255 (after_first (λ b. b == 58) pair)) content is in
    let len = number_found 0 (2 ^ 24) parts.0 (before_first (λ b. b == 58) pair) parts.2 in
    let byte = number_found 0 255 parts.1 (after_first (λ b. b == 58) pair) parts.3 in
    let some : 0 < length (after_first (λ b. b == 58) pair) = rw byte.0 (decimal_nonempty parts.1 byte.3) in
    let within = has_colon pair some in
    let colon : get_or pair (position_or_len (λ b. b == 58) pair) 0 ≡ 58 = let h = passes_at_first (λ b. b == 58) pair 0 within in grind (arith, nat_tests) in
    let whole = split_at_first (λ b. b == 58) pair 0 within in
    (parts.0, parts.1, len.2, byte.2, whole ∙ around len.0 colon byte.0, parts.4)
  where
    around : {a b d e : List ℕ} {c : ℕ} → a ≡ d → c ≡ 58 → b ≡ e → a ++ c ∷ b ≡ d ++ 58 ∷ e
    around ha hc hb = rw (ha, hc, hb) refl

-- a word that begins so is this and the rest
begins_so : (word front : List ℕ) → starts_with nat_eq word front ≡ true → word ≡ front ++ drop (length front) word
begins_so word front is = sym (take-append-drop (length front) word) ∙ ap (λ (xs : List ℕ). xs ++ drop (length front) word) (sym (same_text front (take (length front) word) (sym is)))

counted_found : (word : List ℕ) (content : Data) → counted_data word ≡ Ok content → IsData content × (word ≡ data_word content)
counted_found word content is = by_fill (starts_with nat_eq word (codes "fill:")) refl is
  where
    of_pair : (made : ℕ → ℕ → Data) (front : List ℕ) → ((len byte : ℕ) → len ≤ 2 ^ 24 → byte ≤ 255 → IsData (made len byte) × (front ++ (decimal len ++ 58 ∷ decimal byte) ≡ data_word (made len byte))) → (pair : List ℕ) → word ≡ front ++ pair → pair_data made pair ≡ Ok content → IsData content × (word ≡ data_word content)
    of_pair made front fits pair split read =
        let found = pair_found made pair content read in
        let each = fits found.0 found.1 found.2 found.3 in
        rw (← found.5) (each.0, split ∙ ap (λ (xs : List ℕ). front ++ xs) found.4 ∙ each.1)

    by_ramp : (b : Bool) → starts_with nat_eq word (codes "ramp:") ≡ b → cond b (pair_data data_of.Ramp (drop 5 word)) (Err kinds.Data) ≡ Ok content → IsData content × (word ≡ data_word content)
    by_ramp true begins read = of_pair data_of.Ramp (codes "ramp:") (λ len byte short small. ((short, small), refl)) (drop 5 word) (begins_so word (codes "ramp:") begins) read
    by_ramp false begins read = cc

    by_fill : (b : Bool) → starts_with nat_eq word (codes "fill:") ≡ b → cond b (pair_data data_of.Fill (drop 5 word)) (cond (starts_with nat_eq word (codes "ramp:")) (pair_data data_of.Ramp (drop 5 word)) (Err kinds.Data)) ≡ Ok content → IsData content × (word ≡ data_word content)
    by_fill true begins read = of_pair data_of.Fill (codes "fill:") (λ len byte short small. ((short, small), refl)) (drop 5 word) (begins_so word (codes "fill:") begins) read
    by_fill false begins read = by_ramp (starts_with nat_eq word (codes "ramp:")) refl read

-- data that is read is written so
pub data_found : (word : List ℕ) (content : Data) → data_in word ≡ Ok content → IsData content × (word ≡ data_word content)
data_found word content is = by_hex (starts_with nat_eq word (codes "hex:")) refl is
  where
    by_text : (b : Bool) → starts_with nat_eq word (codes "text:") ≡ b → cond b (text_data (drop 5 word)) (counted_data word) ≡ Ok content → IsData content × (word ≡ data_word content)
    by_text true begins read = let found = text_found (drop 5 word) content read in (found.0, begins_so word (codes "text:") begins ∙ found.1)
    by_text false begins read = counted_found word content read

    by_hex : (b : Bool) → starts_with nat_eq word (codes "hex:") ≡ b → cond b (hex_data (drop 4 word)) (cond (starts_with nat_eq word (codes "text:")) (text_data (drop 5 word)) (counted_data word)) ≡ Ok content → IsData content × (word ≡ data_word content)
    by_hex true begins read = let found = hex_found (drop 4 word) content read in (found.0, begins_so word (codes "hex:") begins ∙ found.1)
    by_hex false begins read = by_text (starts_with nat_eq word (codes "text:")) refl read

-- ---- the only fault of data is one

decoded_kind : (read : Result (List ℕ) FromHexError) (kind : Kind) → decoded read ≡ Err kind → kind ≡ kinds.Data
decoded_kind (Ok bytes) kind is = cc
decoded_kind (Err failed) kind is = cc

either_kind : (b : Bool) (r s : Result Data Kind) (kind : Kind) → (r ≡ Err kind → kind ≡ kinds.Data) → (s ≡ Err kind → kind ≡ kinds.Data) → cond b r s ≡ Err kind → kind ≡ kinds.Data
either_kind true r s kind left right is = left is
either_kind false r s kind left right is = right is

pair_kind : (made : ℕ → ℕ → Data) (r s : Result ℕ Kind) (kind : Kind) → length_and_byte made r s ≡ Err kind → kind ≡ kinds.Data
pair_kind made (Ok len) (Ok byte) kind is = cc
pair_kind made (Ok len) (Err other) kind is = cc
pair_kind made (Err other) s kind is = cc

pub data_refused : (word : List ℕ) (kind : Kind) → data_in word ≡ Err kind → kind ≡ kinds.Data
data_refused word kind is =
    either_kind (starts_with nat_eq word (codes "hex:")) (hex_data (drop 4 word)) _ kind
    (either_kind (list_all is_lower_digit (drop 4 word)) (decoded (decode_of (drop 4 word))) (Err kinds.Data) kind (decoded_kind (decode_of (drop 4 word)) kind) (λ e. cc))
    (either_kind (starts_with nat_eq word (codes "text:")) (text_data (drop 5 word)) (counted_data word) kind
    (either_kind (list_all is_seen (drop 5 word)) (Ok (data_of.Text (drop 5 word))) (Err kinds.Data) kind (λ e. cc) (λ e. cc))
    (either_kind (starts_with nat_eq word (codes "fill:")) (pair_data data_of.Fill (drop 5 word)) _ kind
    (pair_kind data_of.Fill (number_within 0 (2 ^ 24) (before_first (λ b. b == 58) (drop 5 word))) (number_within 0 255 (after_first (λ b. b == 58) (drop 5 word))) kind)
    (either_kind (starts_with nat_eq word (codes "ramp:")) (pair_data data_of.Ramp (drop 5 word)) (Err kinds.Data) kind
    (pair_kind data_of.Ramp (number_within 0 (2 ^ 24) (before_first (λ b. b == 58) (drop 5 word))) (number_within 0 255 (after_first (λ b. b == 58) (drop 5 word))) kind) (λ e. cc))))
    is
