-- Lines and words: what is cut is laid out so, and what is laid out is cut so.
use Rattle.std.proofs.Common.{◌≡◌, ◌≢◌, ℕ, suc, ◌==◌, Bool, true, false, cond, List, [], ◌∷◌, ◌++◌, refl, sym, ap, ◌∙◌, arith, append_assoc}
use Rattle.std.specs.Prelude.{All, Contains}
use Rattle.std.specs.List.{AllByRecursion, join_with_byte, list_any, onto_first}
use Rattle.std.proofs.lemmas.Bool.Decides.{nat_tests}
use Rattle.std.proofs.lemmas.List.Elements.{All-nil, All-cons, All-weaker, All-from_recursion, recursion_from_All}
use Rattle.std.proofs.lemmas.List.Splits.{slice_split_none, slice_split_at, join_with_byte-slice_split}
use Rattle.pack_input.specs.Layout.{unless_empty, AreLines}
use Rattle.plfs_types.specs.Parts.{Lacks, ended, AreWords}
use Rattle.pack_input.specs.Words.{lines_of, without_empty_last}
use Rattle.plfs_types.specs.Parts.{parts_of, words_of, is_empty}
use Rattle.pack_input.proofs.Cuts.{some_parts}

-- ---- parts

fails : (byte : ℕ) (bytes : List ℕ) → Lacks byte bytes → All (λ b. (b == byte) ≡ false) bytes
fails byte bytes lacks = All-weaker (λ b. b ≢ byte) (λ b. (b == byte) ≡ false) (λ b other. grind (arith, nat_tests)) bytes lacks

itself : (byte : ℕ) → (byte == byte) ≡ true
itself byte = grind (arith, nat_tests)

-- parts that lack the byte are cut out of their row
parts_again : (byte : ℕ) (first : List ℕ) (others : List (List ℕ)) → Lacks byte first → AllByRecursion (Lacks byte) others → parts_of byte (join_with_byte byte (first ∷ others)) ≡ first ∷ others
parts_again byte first [] lacks all = slice_split_none (λ b. b == byte) first (fails byte first lacks)
parts_again byte first (next ∷ others) lacks all =
    slice_split_at (λ b. b == byte) first byte (join_with_byte byte (next ∷ others)) (fails byte first lacks) (itself byte)
    ∙ ap (λ (parts : List (List ℕ)). first ∷ parts) (parts_again byte next others all.0 all.1)

one_longer : (b byte : ℕ) (parts : List (List ℕ)) → (b ≢ byte) → AllByRecursion (Lacks byte) parts → AllByRecursion (Lacks byte) (onto_first b parts)
one_longer b byte [] other all = (All-cons (λ c. c ≢ byte) b [] other (All-nil (λ c. c ≢ byte)), tt)
one_longer b byte (part ∷ parts) other all = (All-cons (λ c. c ≢ byte) b part other all.0, all.1)

one_more : (b byte : ℕ) (parts : List (List ℕ)) (same : Bool) → (b == byte) ≡ same → AllByRecursion (Lacks byte) parts → AllByRecursion (Lacks byte) (cond same ([] ∷ parts) (onto_first b parts))
one_more b byte parts true is all = (All-nil (λ c. c ≢ byte), all)
one_more b byte parts false is all = one_longer b byte parts (λ same. let h : (b == byte) ≡ true = grind (arith, nat_tests) in cc) all

-- parts that are cut out lack the byte
parts_apart : (byte : ℕ) (bytes : List ℕ) → AllByRecursion (Lacks byte) (parts_of byte bytes)
parts_apart byte [] = (All-nil (λ c. c ≢ byte), tt)
parts_apart byte (b ∷ bytes) = one_more b byte (parts_of byte bytes) (b == byte) refl (parts_apart byte bytes)

-- ---- words

pub are_words : (line : List ℕ) → AreWords line (words_of line)
are_words line = record {
  some = some_parts 32 line;
  apart = All-from_recursion (Lacks 32) (words_of line) (parts_apart 32 line);
  joined = sym (join_with_byte-slice_split 32 line);
}

pub words_are : (line : List ℕ) (words : List (List ℕ)) → AreWords line words → words_of line ≡ words
words_are line [] are = absurd (are.some refl)
words_are line (word ∷ words) are =
    let all = recursion_from_All (Lacks 32) (word ∷ words) are.apart in
    ap words_of are.joined ∙ parts_again 32 word words all.0 all.1

pub empty_word : (words : List (List ℕ)) → list_any is_empty words ≡ true → Contains words []
empty_word [] any = cc
empty_word ([] ∷ words) any = (0, omega arith, refl)
empty_word ((b ∷ bs) ∷ words) any = let there = empty_word words any in (suc there.0, omega (arith, there.1), there.2)

pub full_words : (words : List (List ℕ)) → list_any is_empty words ≡ false → AllByRecursion (λ (word : List ℕ). word ≢ []) words
full_words [] none = tt
full_words ([] ∷ words) none = cc
full_words ((b ∷ bs) ∷ words) none = (λ is. cc, full_words words none)

-- ---- lines

-- parts with line feeds between them are lines that end with one, and a last one
pub record HasLast (parts : List (List ℕ)) (bytes : List ℕ) (lines : List (List ℕ)) : Type 0 where
  pub fed : List (List ℕ)
  pub last : List ℕ
  pub apart : AllByRecursion (Lacks 10) fed
  pub last_apart : Lacks 10 last
  pub spelled : bytes ≡ ended fed ++ last
  pub are : lines ≡ fed ++ unless_empty last

parted : (line : List ℕ) (lines : List (List ℕ)) → AllByRecursion (Lacks 10) (line ∷ lines) → HasLast (line ∷ lines) (join_with_byte 10 (line ∷ lines)) (without_empty_last (line ∷ lines))
parted line [] all = record { fed = []; last = line; apart = tt; last_apart = all.0; spelled = refl; are = refl }
parted line (next ∷ lines) all =
    let h = parted next lines all.1 in
    record {
      fed = line ∷ h.fed;
      last = h.last;
      apart = (all.0, h.apart);
      last_apart = h.last_apart;
      spelled = (
          ap (λ (rest : List ℕ). line ++ 10 ∷ rest) h.spelled
          ∙ sym (append_assoc line (10 ∷ []) (ended h.fed ++ h.last))
          ∙ sym (append_assoc (line ++ 10 ∷ []) (ended h.fed) h.last));
      are = ap (λ (rest : List (List ℕ)). line ∷ rest) h.are;
    }

as_lines : (parts : List (List ℕ)) (bytes bytes_of : List ℕ) (lines : List (List ℕ)) → bytes ≡ bytes_of → HasLast parts bytes_of lines → AreLines bytes lines
as_lines parts bytes bytes_of lines same h = record {
  fed = h.fed;
  last = h.last;
  apart = All-from_recursion (Lacks 10) h.fed h.apart;
  last_apart = h.last_apart;
  spelled = same ∙ h.spelled;
  are = h.are;
}

lines_of_parts : (bytes : List ℕ) (parts : List (List ℕ)) → parts ≢ [] → AllByRecursion (Lacks 10) parts → bytes ≡ join_with_byte 10 parts → AreLines bytes (without_empty_last parts)
lines_of_parts bytes [] some all joined = absurd (some refl)
lines_of_parts bytes (line ∷ lines) some all joined = as_lines (line ∷ lines) bytes (join_with_byte 10 (line ∷ lines)) (without_empty_last (line ∷ lines)) joined (parted line lines all)

pub are_lines : (bytes : List ℕ) → AreLines bytes (lines_of bytes)
are_lines bytes = lines_of_parts bytes (parts_of 10 bytes) (some_parts 10 bytes) (parts_apart 10 bytes) (sym (join_with_byte-slice_split 10 bytes))

-- lines that end with a line feed, and a last one, are parts with line feeds between them
fed_parts : (fed : List (List ℕ)) (last : List ℕ) → AllByRecursion (Lacks 10) fed → Lacks 10 last → parts_of 10 (ended fed ++ last) ≡ fed ++ last ∷ []
fed_parts [] last all lacks = slice_split_none (λ b. b == 10) last (fails 10 last lacks)
fed_parts (line ∷ fed) last all lacks =
    ap (parts_of 10) (append_assoc (line ++ 10 ∷ []) (ended fed) last ∙ append_assoc line (10 ∷ []) (ended fed ++ last))
    ∙ slice_split_at (λ b. b == 10) line 10 (ended fed ++ last) (fails 10 line all.0) (itself 10)
    ∙ ap (λ (parts : List (List ℕ)). line ∷ parts) (fed_parts fed last all.1 lacks)

last_off : (fed : List (List ℕ)) (last : List ℕ) → without_empty_last (fed ++ last ∷ []) ≡ fed ++ unless_empty last
last_off [] last = refl
last_off (line ∷ []) last = refl
last_off (line ∷ next ∷ fed) last = ap (λ (lines : List (List ℕ)). line ∷ lines) (last_off (next ∷ fed) last)

pub lines_are : (bytes : List ℕ) (lines : List (List ℕ)) → AreLines bytes lines → lines_of bytes ≡ lines
lines_are bytes lines are =
    ap lines_of are.spelled
    ∙ ap without_empty_last (fed_parts are.fed are.last (recursion_from_All (Lacks 10) are.fed are.apart) are.last_apart)
    ∙ last_off are.fed are.last ∙ sym are.are
