-- Lines and words: what is cut is laid out so, and what is laid out is cut so.
use Rattle.std.proofs.Common.{◌≡◌, ◌≢◌, ℕ, suc, ◌==◌, Bool, true, false, cond, List, [], ◌∷◌, ◌++◌, length, refl, sym, ap, ◌∙◌, inl, inr, arith, append_assoc}
use Rattle.std.specs.Prelude.{All, Contains, ◌⊎◌}
use Rattle.std.specs.List.{AllByRecursion, join_with_byte, list_any, onto_first}
use Rattle.std.proofs.lemmas.Bool.Decides.{nat_tests}
use Rattle.std.proofs.lemmas.List.{append-nil, append_cancel_right}
use Rattle.std.proofs.lemmas.List.Elements.{All-nil, All-cons, All-weaker, All-tail, All-append, All-from_recursion, recursion_from_All}
use Rattle.std.proofs.lemmas.List.Splits.{slice_split_none, slice_split_at, length-slice_split, join_with_byte-slice_split}
use Rattle.script_lang.specs.Layout.{AreLines, IsPassed}
use Rattle.plfs_types.specs.Parts.{Lacks, ended, AreWords}
use Rattle.script_lang.specs.Words.{lines_of, is_passed}
use Rattle.plfs_types.specs.Parts.{parts_of, words_of, is_empty}

-- ---- parts

fails : (byte : ℕ) (bytes : List ℕ) → Lacks byte bytes → All (λ b. (b == byte) ≡ false) bytes
fails byte bytes lacks = All-weaker (λ b. b ≢ byte) (λ b. (b == byte) ≡ false) (λ b other. grind (arith, nat_tests)) bytes lacks

itself : (byte : ℕ) → (byte == byte) ≡ true
itself byte = grind (arith, nat_tests)

-- parts that lack the byte are cut out of their row
parts_again : (byte : ℕ) (first : List ℕ) (others : List (List ℕ)) → Lacks byte first → AllByRecursion (Lacks byte) others → parts_of byte (join_with_byte byte (first ∷ others)) ≡ first ∷ others
parts_again byte first [] lacks all = slice_split_none (λ b. b == byte) first (fails byte first lacks)
parts_again byte first (next ∷ others) lacks all =
    slice_split_at (λ b. b == byte) first byte (join_with_byte byte (next ∷ others)) (fails byte first lacks) (itself byte)
    ∙ ap (λ (parts : List (List ℕ)). first ∷ parts) (parts_again byte next others all.0 all.1)

one_longer : (b byte : ℕ) (parts : List (List ℕ)) → (b ≢ byte) → AllByRecursion (Lacks byte) parts → AllByRecursion (Lacks byte) (onto_first b parts)
one_longer b byte [] other all = (All-cons (λ c. c ≢ byte) b [] other (All-nil (λ c. c ≢ byte)), tt)
one_longer b byte (part ∷ parts) other all = (All-cons (λ c. c ≢ byte) b part other all.0, all.1)

one_more : (b byte : ℕ) (parts : List (List ℕ)) (same : Bool) → (b == byte) ≡ same → AllByRecursion (Lacks byte) parts → AllByRecursion (Lacks byte) (cond same ([] ∷ parts) (onto_first b parts))
one_more b byte parts true is all = (All-nil (λ c. c ≢ byte), all)
one_more b byte parts false is all = one_longer b byte parts (λ same. let h : (b == byte) ≡ true = grind (arith, nat_tests) in cc) all

-- parts that are cut out lack the byte
parts_apart : (byte : ℕ) (bytes : List ℕ) → AllByRecursion (Lacks byte) (parts_of byte bytes)
parts_apart byte [] = (All-nil (λ c. c ≢ byte), tt)
parts_apart byte (b ∷ bytes) = one_more b byte (parts_of byte bytes) (b == byte) refl (parts_apart byte bytes)

some_parts : (byte : ℕ) (bytes : List ℕ) → parts_of byte bytes ≢ []
some_parts byte bytes none =
    let many = length-slice_split (λ b. b == byte) bytes in
    let few : length (parts_of byte bytes) ≡ 0 = ap length none in
    omega arith

-- ---- words

pub are_words : (line : List ℕ) → AreWords line (words_of line)
are_words line = record {
  some = some_parts 32 line;
  apart = All-from_recursion (Lacks 32) (words_of line) (parts_apart 32 line);
  joined = sym (join_with_byte-slice_split 32 line);
}

pub words_are : (line : List ℕ) (words : List (List ℕ)) → AreWords line words → words_of line ≡ words
words_are line [] are = absurd (are.some refl)
words_are line (word ∷ words) are =
    let all = recursion_from_All (Lacks 32) (word ∷ words) are.apart in
    ap words_of are.joined ∙ parts_again 32 word words all.0 all.1

pub empty_word : (words : List (List ℕ)) → list_any is_empty words ≡ true → Contains words []
empty_word [] any = cc
empty_word ([] ∷ words) any = (0, omega arith, refl)
empty_word ((b ∷ bs) ∷ words) any = let there = empty_word words any in (suc there.0, omega (arith, there.1), there.2)

pub full_words : (words : List (List ℕ)) → list_any is_empty words ≡ false → All (λ word. word ≢ []) words
full_words words any = All-from_recursion (λ word. word ≢ []) words (each words any)
  where
    each : (ws : List (List ℕ)) → list_any is_empty ws ≡ false → AllByRecursion (λ word. word ≢ []) ws
    each [] none = tt
    each ([] ∷ ws) none = cc
    each ((b ∷ bs) ∷ ws) none = (λ is. cc, each ws none)

pub none_empty : (words : List (List ℕ)) → All (λ word. word ≢ []) words → list_any is_empty words ≡ false
none_empty words full = each words (recursion_from_All (λ word. word ≢ []) words full)
  where
    each : (ws : List (List ℕ)) → AllByRecursion (λ word. word ≢ []) ws → list_any is_empty ws ≡ false
    each [] none = refl
    each ([] ∷ ws) none = absurd (none.0 refl)
    each ((b ∷ bs) ∷ ws) none = each ws none.1

-- ---- lines

line_fed : (line : List ℕ) (lines : List (List ℕ)) → join_with_byte 10 (line ∷ lines) ++ 10 ∷ [] ≡ ended (line ∷ lines)
line_fed line [] = sym (append-nil (line ++ 10 ∷ []))
line_fed line (next ∷ lines) =
    append_assoc line (10 ∷ join_with_byte 10 (next ∷ lines)) (10 ∷ [])
    ∙ ap (λ (rest : List ℕ). line ++ 10 ∷ rest) (line_fed next lines)
    ∙ sym (append_assoc line (10 ∷ []) (ended (next ∷ lines)))

lines_fed : (lines : List (List ℕ)) → lines ≢ [] → join_with_byte 10 lines ++ 10 ∷ [] ≡ ended lines
lines_fed [] some = absurd (some refl)
lines_fed (line ∷ lines) some = line_fed line lines

empty_last : (line : List ℕ) (lines : List (List ℕ)) → join_with_byte 10 (line ∷ (lines ++ [] ∷ [])) ≡ join_with_byte 10 (line ∷ lines) ++ 10 ∷ []
empty_last line [] = refl
empty_last line (next ∷ lines) =
    ap (λ (rest : List ℕ). line ++ 10 ∷ rest) (empty_last next lines)
    ∙ sym (append_assoc line (10 ∷ join_with_byte 10 (next ∷ lines)) (10 ∷ []))

pub are_lines : (bytes : List ℕ) → AreLines bytes (lines_of bytes)
are_lines bytes = record {
  apart = All-from_recursion (Lacks 10) (lines_of bytes) (parts_apart 10 bytes);
  ends = inr (ap (λ (all : List ℕ). all ++ 10 ∷ []) (sym (join_with_byte-slice_split 10 bytes)) ∙ lines_fed (lines_of bytes) (some_parts 10 bytes));
}

all_fed : (bytes : List ℕ) (lines : List (List ℕ)) → All (Lacks 10) lines → bytes ≡ ended lines → lines_of bytes ≡ lines ++ [] ∷ []
all_fed bytes [] apart is = ap lines_of is
all_fed bytes (line ∷ lines) apart is =
    let all = recursion_from_All (Lacks 10) (line ∷ lines) apart in
    let more = recursion_from_All (Lacks 10) (lines ++ [] ∷ []) (All-append (Lacks 10) lines ([] ∷ []) (All-tail (Lacks 10) line lines apart) (All-cons (Lacks 10) [] [] (All-nil (λ c. c ≢ 10)) (All-nil (Lacks 10)))) in
    ap lines_of (is ∙ sym (line_fed line lines) ∙ sym (empty_last line lines)) ∙ parts_again 10 line (lines ++ [] ∷ []) all.0 more

last_unfed : (bytes : List ℕ) (lines : List (List ℕ)) → All (Lacks 10) lines → bytes ++ 10 ∷ [] ≡ ended lines → lines_of bytes ≡ lines
last_unfed [] [] apart is = cc
last_unfed (b ∷ bytes) [] apart is = cc
last_unfed bytes (line ∷ lines) apart is =
    let all = recursion_from_All (Lacks 10) (line ∷ lines) apart in
    ap lines_of (append_cancel_right bytes (join_with_byte 10 (line ∷ lines)) (10 ∷ []) (is ∙ sym (line_fed line lines))) ∙ parts_again 10 line lines all.0 all.1

-- the cut lines are the lines, or these and an empty one, which is passed over
pub lines_are : (bytes : List ℕ) (lines : List (List ℕ)) → AreLines bytes lines → (lines_of bytes ≡ lines) ⊎ (lines_of bytes ≡ lines ++ [] ∷ [])
lines_are bytes lines are = elim are.ends [ inl fed ↦ inr (all_fed bytes lines are.apart fed) | inr unfed ↦ inl (last_unfed bytes lines are.apart unfed) ]

pub passed : (line : List ℕ) → is_passed line ≡ true → IsPassed line
passed [] is = tt
passed (b ∷ bytes) is = grind (arith, nat_tests)

pub passed_over : (line : List ℕ) → IsPassed line → is_passed line ≡ true
passed_over [] is = refl
passed_over (b ∷ bytes) is = grind (arith, nat_tests)

pub not_passed : (line : List ℕ) → is_passed line ≡ false → IsPassed line → ⊥
not_passed line not is = let yes = passed_over line is in cc

pub is_said : (line : List ℕ) → (IsPassed line → ⊥) → is_passed line ≡ false
is_said line said = by (is_passed line) refl
  where
    by : (b : Bool) → is_passed line ≡ b → is_passed line ≡ false
    by false is = is
    by true is = absurd (said (passed line is))
