-- The bytes that texts are made of.
use Rattle.std.proofs.Common.{◌≡◌, ℕ, Some, ◌+◌, ◌/◌, ◌%◌, ◌<◌, ◌≤◌, ◌^◌, ◌==◌, ◌&&◌, true, false, cond, not, List, [], ◌∷◌, ◌++◌, length, codes, refl, arith}
use Rattle.std.specs.Prelude.{slice_index, All}
use Rattle.std.specs.List.{AllByRecursion, list_all}
use Rattle.std.specs.Str.{bytes_eq}
use Rattle.std.specs.Fmt.{decimal}
use Rattle.std.proofs.lemmas.Fmt.{decimal_by_steps_wide, decimal_nonempty}
use Rattle.std.proofs.lemmas.Bool.Decides.{nat_tests}
use Rattle.std.proofs.lemmas.List.Elements.{All-tail, All-head}
use Rattle.hex.specs.Hex.{hex_digit_value, lower_digits, upper_digits, encode_lower, encode_with}
use Rattle.hex.proofs.HexLemmas.{IsDigits-lower_digits, IsDigits-upper_digits}
use Rattle.plfs_types.specs.Names.{is_name_byte, IsLogicalName}
use Rattle.report_text.specs.Items.{escaped, escaped_byte}
use Rattle.report_text.specs.Widths.{AreBytes}
use Rattle.report_text.proofs.Cuts.{Avoids}

pub by_append : {X : Type 0} (P : X → Type 0) (xs ys : List X) → AllByRecursion P xs → AllByRecursion P ys → AllByRecursion P (xs ++ ys)
by_append P [] ys h k = k
by_append P (x ∷ xs) ys h k = (h.0, by_append P xs ys h.1 k)

pub weaker : {X : Type 0} (P Q : X → Type 0) → ((x : X) → P x → Q x) → (xs : List X) → AllByRecursion P xs → AllByRecursion Q xs
weaker P Q f [] h = tt
weaker P Q f (x ∷ xs) h = (f x h.0, weaker P Q f xs h.1)

pub by_recursion : {X : Type 0} (P : X → Type 0) (xs : List X) → All P xs → AllByRecursion P xs
by_recursion P [] h = tt
by_recursion P (x ∷ xs) h = (All-head P x xs h, by_recursion P xs (All-tail P x xs h))

-- each byte is above this
abbrev pub Above : ℕ → List ℕ → Type 0
Above k text = AllByRecursion (λ b. k < b) text

pub avoids_below : (k c : ℕ) (text : List ℕ) → c ≤ k → Above k text → Avoids c text
avoids_below k c text low h = weaker (λ b. k < b) (λ b. (b == c) ≡ false) (λ b above. grind (arith, nat_tests)) text h

pub lower : (k m : ℕ) (text : List ℕ) → k ≤ m → Above m text → Above k text
lower k m text low h = weaker (λ b. m < b) (λ b. k < b) (λ b above. omega arith) text h

avoids_from_test : (c : ℕ) (text : List ℕ) → list_all (λ b. not (b == c)) text ≡ true → Avoids c text
avoids_from_test c [] h = tt
avoids_from_test c (b ∷ text) h =
    elim (b == c) as (λ v. (not v && list_all (λ b. not (b == c)) text) ≡ true → (v ≡ false) × Avoids c text) [ true ↦ λ e. absurd (cc e) | false ↦ λ e. (refl, avoids_from_test c text e) ] h

pub avoids_word : (c : ℕ) (text : List ℕ) → list_all (λ b. not (b == c)) text ≡ true → Avoids c text
avoids_word = avoids_from_test

-- ---- a text that does not begin with a dash

abbrev pub NoDash : List ℕ → Type 0
NoDash [] = ⊥
NoDash (b ∷ bs) = (b == 45) ≡ false

pub NoDash-append : (a b : List ℕ) → NoDash a → NoDash (a ++ b)
NoDash-append [] b h = absurd h
NoDash-append (x ∷ a) b h = h

pub not_dash : (text : List ℕ) → NoDash text → bytes_eq text (codes "-") ≡ false
not_dash [] h = absurd h
not_dash (b ∷ text) h = rw h refl

-- ---- numbers

abbrev pub IsDigit : ℕ → Type 0
IsDigit b = (48 ≤ b) × (b ≤ 57)

pub digits_of_number : (n : ℕ) → n < 10 ^ 64 → AllByRecursion IsDigit (decimal n)
digits_of_number n small =
    decimal_by_steps_wide (λ m ds. AllByRecursion IsDigit ds)
    (λ m low. ((omega arith, omega arith), tt))
    (λ m ds high h. by_append IsDigit ds ((48 + m % 10) ∷ []) h ((omega arith, omega arith), tt)) n small

pub number_above : (n : ℕ) → n < 10 ^ 64 → Above 47 (decimal n)
number_above n small = weaker IsDigit (λ b. 47 < b) (λ b digit. omega (arith, digit.0)) (decimal n) (digits_of_number n small)

pub number_avoids_low : (c n : ℕ) → c < 48 → n < 10 ^ 64 → Avoids c (decimal n)
number_avoids_low c n low small = avoids_below 47 c (decimal n) (omega arith) (number_above n small)

pub number_avoids_high : (c n : ℕ) → 57 < c → n < 10 ^ 64 → Avoids c (decimal n)
number_avoids_high c n high small = weaker IsDigit (λ b. (b == c) ≡ false) (λ b digit. let le : b ≤ 57 = digit.1 in grind (arith, nat_tests)) (decimal n) (digits_of_number n small)

digits_no_dash : (ds : List ℕ) → 0 < length ds → AllByRecursion IsDigit ds → NoDash ds
digits_no_dash [] some h = absurd (omega arith)
digits_no_dash (d ∷ ds) some h = let low : 48 ≤ d = h.0.0 in grind (arith, nat_tests)

pub number_no_dash : (n : ℕ) → n < 2 ^ 64 → NoDash (decimal n)
number_no_dash n small = digits_no_dash (decimal n) (decimal_nonempty n small) (digits_of_number n (omega arith))

-- ---- bytes as digits

digit_above : (c v : ℕ) → hex_digit_value c ≡ Some v → 47 < c
digit_above c v e = grind arith

lower_above : (d : ℕ) → d < 16 → 47 < slice_index lower_digits d
lower_above d low = digit_above (slice_index lower_digits d) d (IsDigits-lower_digits d low)

pub upper_above : (d : ℕ) → d < 16 → 47 < slice_index upper_digits d
upper_above d low = digit_above (slice_index upper_digits d) d (IsDigits-upper_digits d low)

pub content_above : (bytes : List ℕ) → AreBytes bytes → Above 47 (encode_lower bytes)
unfolding encode_with
content_above [] h = tt
content_above (b ∷ bytes) h =
    let byte : b < 256 = h.0 in
    let high : b / 16 < 16 = omega arith in
    let low : b % 16 < 16 = omega arith in
    (lower_above (b / 16) high, (lower_above (b % 16) low, content_above bytes h.1))

pub content_no_dash : (b : ℕ) (bytes : List ℕ) → AreBytes (b ∷ bytes) → NoDash (encode_lower (b ∷ bytes))
unfolding encode_with
content_no_dash b bytes h =
    let byte : b < 256 = h.0 in
    let high : b / 16 < 16 = omega arith in
    let above = lower_above (b / 16) high in
    grind (arith, nat_tests)

-- ---- names

-- a byte of a name that is escaped
abbrev pub IsPlain : ℕ → Type 0
IsPlain b = (36 < b) × ((b == 47) ≡ false)

name_byte_plain : (b : ℕ) → is_name_byte b ≡ true → IsPlain b
name_byte_plain b h = (grind (arith, nat_tests), grind (arith, nat_tests))

pub name_byte_no_escape : (b : ℕ) → is_name_byte b ≡ true → (b == 37) ≡ false
name_byte_no_escape b h = grind (arith, nat_tests)

above_plain : (b : ℕ) → 47 < b → IsPlain b
above_plain b h = (omega arith, grind (arith, nat_tests))

escaped_byte_plain : (b : ℕ) → b < 256 → AllByRecursion IsPlain (escaped_byte b)
escaped_byte_plain b byte =
    let high : b / 16 < 16 = omega arith in
    let low : b % 16 < 16 = omega arith in
    elim (is_name_byte b) as (λ v. is_name_byte b ≡ v → AllByRecursion IsPlain (cond v (b ∷ []) (37 ∷ slice_index upper_digits (b / 16) ∷ slice_index upper_digits (b % 16) ∷ []))) [
      | true ↦ λ e. (name_byte_plain b e, tt)
      | false ↦ λ e. ((omega arith, refl), (above_plain _ (upper_above (b / 16) high), (above_plain _ (upper_above (b % 16) low), tt)))
    ] refl

pub escaped_plain : (name : List ℕ) → AreBytes name → AllByRecursion IsPlain (escaped name)
escaped_plain [] h = tt
escaped_plain (b ∷ name) h = by_append IsPlain (escaped_byte b) (escaped name) (escaped_byte_plain b h.0) (escaped_plain name h.1)

pub logical_above : (name : List ℕ) → IsLogicalName name → Above 44 name
logical_above name h = weaker (λ b. is_name_byte b ≡ true) (λ b. 44 < b) (λ b e. grind (arith, nat_tests)) name (by_recursion (λ b. is_name_byte b ≡ true) name h.bytes)

none_left : 1 ≤ 0 → ⊥
none_left h = omega arith

pub logical_no_dash : (name : List ℕ) → IsLogicalName name → NoDash name
logical_no_dash [] h = absurd (none_left h.not_empty)
logical_no_dash (b ∷ name) h = let other = h.no_dash in grind (arith, nat_tests)
