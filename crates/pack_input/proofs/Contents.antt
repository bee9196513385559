-- The word of a content: what is written is read, and what is read is so written.
use Rattle.std.proofs.Common.{◌≡◌, ◌≢◌, ℕ, suc, ◌/◌, ◌%◌, ◌<◌, ◌&&◌, true, false, List, [], ◌∷◌, get_or, Some, None, Ok, refl, sym, ap, subst, ◌∙◌, inl, inr, arith}
use Rattle.std.specs.List.{AllByRecursion, list_all}
use Rattle.std.proofs.lemmas.Bool.{and_from, and_parts, cases_Bool}
use Rattle.std.proofs.lemmas.Bool.Decides.{nat_tests}
use Rattle.std.proofs.lemmas.List.Elements.{All-from_recursion}
use Rattle.std.proofs.lemmas.List.Sums.{AllPass-from_list_all}
use Rattle.hex.specs.Hex.{encode_with, encode_lower, decode_of, lower_digits, IsBytes}
use Rattle.hex.proofs.HexLemmas.{decode_of-encode_lower, decode_of-ok}
use Rattle.pack_input.specs.Input.{content_word, SaysNothing}
use Rattle.plfs_types.specs.Parts.{Lacks}
use Rattle.pack_input.specs.Digits.{decoded}
use Rattle.pack_input.specs.Reading.{is_dash, content_of}
use Rattle.plfs_types.specs.Parts.{is_lower_digit}
use Rattle.pack_input.proofs.Digits.{lower_pairs}
use Rattle.pack_input.proofs.SaidBytes.{decoded_so}

-- ---- what is written is read

digit_is_lower : (n : ℕ) → n < 16 → is_lower_digit (get_or lower_digits n 0) ≡ true
digit_is_lower n small = AllPass-from_list_all is_lower_digit lower_digits refl n 0 small

digits_are_lower : (bytes : List ℕ) → IsBytes bytes → list_all is_lower_digit (encode_with lower_digits bytes) ≡ true
unfolding encode_with
digits_are_lower [] fits = refl
digits_are_lower (b ∷ bytes) fits =
    let byte : b < 256 = fits 0 in
    and_from (is_lower_digit (get_or lower_digits (b / 16) 0)) (is_lower_digit (get_or lower_digits (b % 16) 0) && list_all is_lower_digit (encode_with lower_digits bytes))
    (digit_is_lower (b / 16) (omega arith))
    (and_from (is_lower_digit (get_or lower_digits (b % 16) 0)) (list_all is_lower_digit (encode_with lower_digits bytes))
    (digit_is_lower (b % 16) (omega arith)) (digits_are_lower bytes (λ i. fits (suc i))))

no_dash : (b : ℕ) (bytes : List ℕ) → is_dash (encode_lower (b ∷ bytes)) ≡ false
unfolding encode_with
no_dash b bytes = refl

pub read_again : (content : List ℕ) → IsBytes content → content_of (content_word content) ≡ Some content
read_again [] fits = refl
read_again (b ∷ bytes) fits = rw (no_dash b bytes, digits_are_lower (b ∷ bytes) fits, decode_of-encode_lower (b ∷ bytes) fits) refl

-- ---- what is read is so written

dash_is : (word : List ℕ) → is_dash word ≡ true → word ≡ 45 ∷ []
dash_is [] is = cc
dash_is (b ∷ []) is = let same : b ≡ 45 = grind (arith, nat_tests, is) in ap (λ (n : ℕ). n ∷ []) same
dash_is (b ∷ c ∷ bytes) is = cc

digits_found : (word content : List ℕ) → list_all is_lower_digit word ≡ true → decoded (decode_of word) ≡ Some content → IsBytes content × (encode_lower content ≡ word)
digits_found word content lower read =
    let found : decode_of word ≡ Ok content = decoded_so (decode_of word) content read in
    let ok = decode_of-ok word content found in
    let pairs = lower_pairs word lower ok.0 in
    let again : decode_of word ≡ Ok pairs.0 = ap decode_of (sym pairs.2) ∙ decode_of-encode_lower pairs.0 pairs.1 in
    let same : pairs.0 ≡ content = cc in
    (ok.3, ap encode_lower (sym same) ∙ pairs.2)

as_word : (word content : List ℕ) → word ≢ [] → encode_lower content ≡ word → word ≡ content_word content
unfolding encode_with
as_word word [] some is = absurd (some (sym is))
as_word word (b ∷ bytes) some is = sym is

pub content_found : (word content : List ℕ) → word ≢ [] → content_of word ≡ Some content → IsBytes content × (word ≡ content_word content)
content_found word content some read = elim (cases_Bool (is_dash word)) [
  | inl dash ↦
      let none : content_of word ≡ Some [] = rw dash refl in
      let same : content ≡ [] = cc in
      let nothing : IsBytes [] = λ i. omega arith in
      (subst (λ (bytes : List ℕ). IsBytes bytes) (sym same) nothing, dash_is word dash ∙ ap content_word (sym same))
  | inr no_dash ↦ elim (cases_Bool (list_all is_lower_digit word)) [
    | inl lower ↦
        let read_so : decoded (decode_of word) ≡ Some content = (let is : content_of word ≡ decoded (decode_of word) = rw (no_dash, lower) refl in sym is ∙ read) in
        let found = digits_found word content lower read_so in
        (found.0, as_word word content some found.1)
    | inr upper ↦ let none : content_of word ≡ None = rw (no_dash, upper) refl in absurd (cc)
  ]
]

pub no_content : (word : List ℕ) → content_of word ≡ None → SaysNothing word
no_content word none content fits is = let some : content_of word ≡ Some content = ap content_of is ∙ read_again content fits in cc

-- ---- it has no space

lower_no_space : (b : ℕ) → is_lower_digit b ≡ true → b ≢ 32
lower_no_space b is e = let at_space : is_lower_digit b ≡ false = ap is_lower_digit e in cc

digits_lack : (word : List ℕ) → list_all is_lower_digit word ≡ true → AllByRecursion (λ (b : ℕ). b ≢ 32) word
digits_lack [] all = tt
digits_lack (b ∷ word) all =
    let both = and_parts (is_lower_digit b) (list_all is_lower_digit word) all in
    (lower_no_space b both.0, digits_lack word both.1)

lower_lacks : (word : List ℕ) → list_all is_lower_digit word ≡ true → Lacks 32 word
lower_lacks word all = All-from_recursion (λ (b : ℕ). b ≢ 32) word (digits_lack word all)

dash_lacks : (b : ℕ) → b ≡ 45 → Lacks 32 (b ∷ [])
dash_lacks b is = All-from_recursion (λ (c : ℕ). c ≢ 32) (b ∷ []) ((λ e. omega (arith, is, e)), tt)

pub content_lacks : (content : List ℕ) → IsBytes content → Lacks 32 (content_word content)
content_lacks [] fits = dash_lacks 45 refl
content_lacks (b ∷ bytes) fits = lower_lacks (encode_lower (b ∷ bytes)) (digits_are_lower (b ∷ bytes) fits)

pub content_some : (content : List ℕ) → content_word content ≢ []
unfolding encode_with
content_some [] is = cc
content_some (b ∷ bytes) is = cc
