-- The file of a line: what is read is said there, and what is said there is read.
use Rattle.std.proofs.Common.{◌≡◌, ◌≢◌, ℕ, ◌≤◌, true, false, List, [], ◌∷◌, ◌++◌, Option, Some, None, Result, Ok, Err, refl, sym, ap, subst, ◌∙◌, inl, inr, arith}
use Rattle.std.specs.Prelude.{IsTrue}
use Rattle.std.specs.List.{join_with_byte, list_any}
use Rattle.std.proofs.lemmas.Bool.{cases_Bool}
use Rattle.std.proofs.lemmas.List.Elements.{All-from_recursion, All-weaker}
use Rattle.plfs_types.specs.Names.{is_name_byte, is_logical, IsLogicalName}
use Rattle.plfs_types.proofs.NameTests.{passes_rule, rule_passes}
use Rattle.pack_input.specs.declared.files.NamedFile.{NamedFile}
use Rattle.pack_input.specs.declared.trouble.Kind.{Kind}
use Rattle.pack_input.specs.declared.trouble.Kind.TheVariants.{Count, Name, Spaces}
use Rattle.pack_input.specs.Input.{content_word, SaysFile}
use Rattle.plfs_types.specs.Parts.{Lacks}
use Rattle.pack_input.specs.Reading.{content_of, with_content, judged, two_words, file_of}
use Rattle.plfs_types.specs.Parts.{is_empty, parts_of, words_of}
use Rattle.pack_input.proofs.Cuts.{some_parts}
use Rattle.pack_input.proofs.Contents.{content_found, content_lacks, content_some, read_again}
use Rattle.pack_input.proofs.Layouts.{are_words, full_words, words_are}

-- ---- what is read is said there

-- two words that say this file
pub record SaysSo (words : List (List ℕ)) (f : NamedFile) : Type 0 where
  pub name : List ℕ
  pub word : List ℕ
  pub two : words ≡ name ∷ word ∷ []
  pub named : IsLogicalName name
  pub says : content_of word ≡ Some f.content
  pub same : name ≡ f.name

with_found : (name : List ℕ) (content : Option (List ℕ)) (f : NamedFile) → with_content name content ≡ Ok f → (content ≡ Some f.content) × (name ≡ f.name)
with_found name None f is = cc
with_found name (Some content) f is =
    let made : record { name = name; content = content } ≡ f = cc in
    (ap (λ (g : NamedFile). Some g.content) made, ap (λ (g : NamedFile). g.name) made)

judged_found : (name word : List ℕ) (f : NamedFile) → judged name word ≡ Ok f → SaysSo (name ∷ word ∷ []) f
judged_found name word f is = elim (cases_Bool (is_logical name)) [
  | inl logical ↦
      let read : with_content name (content_of word) ≡ Ok f = (let so : judged name word ≡ with_content name (content_of word) = rw logical refl in sym so ∙ is) in
      let found = with_found name (content_of word) f read in
      record { name = name; word = word; two = refl; named = passes_rule name logical; says = found.0; same = found.1 }
  | inr unnamed ↦ let none : judged name word ≡ Err Name = rw unnamed refl in absurd (cc)
]

two_found : (words : List (List ℕ)) (f : NamedFile) → two_words words ≡ Ok f → SaysSo words f
two_found [] f is = cc
two_found (name ∷ []) f is = cc
two_found (name ∷ word ∷ []) f is = judged_found name word f is
two_found (name ∷ word ∷ more ∷ words) f is = cc

pub words_found : (words : List (List ℕ)) (f : NamedFile) → file_of words ≡ Ok f → (list_any is_empty words ≡ false) × SaysSo words f
words_found words f is = elim (cases_Bool (list_any is_empty words)) [
  | inl some ↦ let spaces : file_of words ≡ Err Spaces = rw some refl in absurd (cc)
  | inr none ↦
      let so : file_of words ≡ two_words words = rw none refl in
      (none, two_found words f (sym so ∙ is))
]

second : (words : List (List ℕ)) (name word : List ℕ) → words ≡ name ∷ word ∷ [] → list_any is_empty words ≡ false → word ≢ []
second words name word two none = let all = full_words (name ∷ word ∷ []) (ap (list_any is_empty) (sym two) ∙ none) in all.1.0

pub file_found : (line : List ℕ) (f : NamedFile) → file_of (words_of line) ≡ Ok f → SaysFile line f
file_found line f is =
    let both = words_found (words_of line) f is in
    let so = both.1 in
    let content = content_found so.word f.content (second (words_of line) so.name so.word so.two both.0) so.says in
    let joined : line ≡ so.name ++ 32 ∷ so.word = (are_words line).joined ∙ ap (join_with_byte 32) so.two in
    record {
      named = subst (λ (name : List ℕ). IsLogicalName name) so.same so.named;
      bytes = content.0;
      spelled = joined ∙ ap (λ (name : List ℕ). name ++ 32 ∷ so.word) so.same ∙ ap (λ (word : List ℕ). f.name ++ 32 ∷ word) content.1;
    }

-- ---- more than two words

more_words : (name word : List ℕ) (words : List (List ℕ)) → words ≢ [] → two_words (name ∷ word ∷ words) ≡ Err Count
more_words name word [] some = absurd (some refl)
more_words name word (more ∷ words) some = refl

pub too_many : (line name words word more : List ℕ) → list_any is_empty (words_of line) ≡ false → words_of line ≡ name ∷ parts_of 32 words → parts_of 32 words ≡ word ∷ parts_of 32 more → ◌≡◌ {A = Result NamedFile Kind} (Err Count) (file_of (words_of line))
too_many line name words word more none first second =
    let so : file_of (words_of line) ≡ two_words (words_of line) = rw none refl in
    sym (so ∙ ap two_words (first ∙ ap (λ (ws : List (List ℕ)). name ∷ ws) second) ∙ more_words name word (parts_of 32 more) (some_parts 32 more))

-- ---- what is said there is read

name_no_space : (b : ℕ) → IsTrue (is_name_byte b) → b ≢ 32
name_no_space b is e = let at_space : is_name_byte b ≡ false = ap is_name_byte e in cc

name_some : (name : List ℕ) → IsLogicalName name → name ≢ []
name_some [] rule is = let some : 1 ≤ 0 = rule.not_empty in omega (arith, some)
name_some (b ∷ bytes) rule is = cc

pub says_words : (line : List ℕ) (f : NamedFile) → SaysFile line f → words_of line ≡ f.name ∷ content_word f.content ∷ []
says_words line f says = words_are line (f.name ∷ content_word f.content ∷ []) (record {
  some = λ is. cc;
  apart = All-from_recursion (Lacks 32) (f.name ∷ content_word f.content ∷ [])
      (All-weaker (λ (b : ℕ). IsTrue (is_name_byte b)) (λ (b : ℕ). b ≢ 32) name_no_space f.name says.named.bytes, (content_lacks f.content says.bytes, tt));
  joined = says.spelled;
})

none_empty : (name word : List ℕ) → name ≢ [] → word ≢ [] → list_any is_empty (name ∷ word ∷ []) ≡ false
none_empty [] word named some = absurd (named refl)
none_empty (b ∷ name) [] named some = absurd (some refl)
none_empty (b ∷ name) (c ∷ word) named some = refl

pub file_again : (line : List ℕ) (f : NamedFile) → SaysFile line f → file_of (words_of line) ≡ Ok f
file_again line f says =
    let none : list_any is_empty (f.name ∷ content_word f.content ∷ []) ≡ false = none_empty f.name (content_word f.content) (name_some f.name says.named) (content_some f.content) in
    let logical : is_logical f.name ≡ true = rule_passes f.name says.named in
    let first : file_of (f.name ∷ content_word f.content ∷ []) ≡ judged f.name (content_word f.content) = rw none refl in
    let next : judged f.name (content_word f.content) ≡ with_content f.name (content_of (content_word f.content)) = rw logical refl in
    ap file_of (says_words line f says) ∙ first ∙ next ∙ ap (with_content f.name) (read_again f.content says.bytes)
