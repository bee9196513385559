-- What a line says, and its first fault.
use Rattle.std.proofs.Common.{◌≡◌, ◌≢◌, ℕ, ◌<◌, Bool, true, false, cond, List, [], ◌∷◌, Ok, Err, refl, sym, ap, ◌∙◌, arith}
use Rattle.std.specs.Prelude.{Contains}
use Rattle.std.specs.List.{list_any}
use Rattle.std.proofs.lemmas.List.Elements.{recursion_from_All}
use Rattle.script_lang.specs.declared.meaning.Meaning.{Meaning}
use Rattle.script_lang.specs.declared.meaning.Meaning.TheVariants as meaning
use Rattle.script_lang.specs.declared.script.ActorDecl.{ActorDecl}
use Rattle.script_lang.specs.declared.script.Script.{Script}
use Rattle.script_lang.specs.declared.trouble.Kind.{Kind}
use Rattle.script_lang.specs.declared.trouble.Kind.TheVariants as kinds
use Rattle.script_lang.specs.Kinds.{HasKind, order, IsFirst}
use Rattle.script_lang.specs.Layout.{IsPassed, HasWords}
use Rattle.plfs_types.specs.Parts.{AreWords}
use Rattle.script_lang.specs.Lines.{meaning_of, line_meaning}
use Rattle.script_lang.specs.Spoken.{spoken}
use Rattle.script_lang.specs.Words.{is_passed}
use Rattle.plfs_types.specs.Parts.{words_of, is_empty}
use Rattle.script_lang.proofs.Lines.FirstKinds.{first_found, first_is_found}
use Rattle.script_lang.proofs.Lines.KindLemmas.{IsPlace, same_kind}
use Rattle.script_lang.proofs.Lines.LayoutLemmas.{are_words, words_are, empty_word, full_words, none_empty, passed, passed_over, not_passed, is_said}
use Rattle.script_lang.proofs.Lines.MeaningLemmas.{Full, Says, said_so, says_so}

-- ---- what is said

-- the line says this, or it is passed over
pub data LineSays (actors : List ActorDecl) (begun : Bool) (reads : ℕ) (line : List ℕ) (said : Meaning) : Type 0 where
  is_passed_over : IsPassed line → said ≡ meaning.Passed → LineSays actors begun reads line said
  has_words : (words : List (List ℕ)) → HasWords line words → Says actors begun reads words said → LineSays actors begun reads line said

words_said : (actors : List ActorDecl) (begun : Bool) (reads : ℕ) (words : List (List ℕ)) (said : Meaning) → words ≢ [] → Full words → meaning_of actors begun reads (spoken words) ≡ Ok said → Says actors begun reads words said
words_said actors begun reads [] said some full is = absurd (some refl)
words_said actors begun reads (whose ∷ behind) said some full is = said_so actors begun reads whose behind said full.1 is

pub line_said : (actors : List ActorDecl) (begun : Bool) (reads : ℕ) (line : List ℕ) (said : Meaning) → line_meaning actors begun reads line ≡ Ok said → LineSays actors begun reads line said
line_said actors begun reads line said is = by (is_passed line) (list_any is_empty (words_of line)) refl refl is
  where
    by : (over spaced : Bool) → is_passed line ≡ over → list_any is_empty (words_of line) ≡ spaced → cond over (Ok meaning.Passed) (cond spaced (Err kinds.Spaces) (meaning_of actors begun reads (spoken (words_of line)))) ≡ Ok said → LineSays actors begun reads line said
    by true spaced over_is spaced_is read = let same : meaning.Passed ≡ said = cc in is_passed_over (passed line over_is) (sym same)
    by false true over_is spaced_is read = cc
    by false false over_is spaced_is read =
        let are = are_words line in
        let full = full_words (words_of line) spaced_is in
        has_words (words_of line) (record { said = not_passed line over_is; are = are; full = full })
        (words_said actors begun reads (words_of line) said are.some (recursion_from_All (λ word. word ≢ []) (words_of line) full) read)

pub line_passed : (actors : List ActorDecl) (begun : Bool) (reads : ℕ) (line : List ℕ) → IsPassed line → line_meaning actors begun reads line ≡ Ok meaning.Passed
line_passed actors begun reads line over = let is = passed_over line over in rw is refl

as_words : (actors : List ActorDecl) (begun : Bool) (reads : ℕ) (line : List ℕ) (words : List (List ℕ)) → (IsPassed line → ⊥) → AreWords line words → list_any is_empty words ≡ false → line_meaning actors begun reads line ≡ meaning_of actors begun reads (spoken words)
as_words actors begun reads line words said are full =
    let over = is_said line said in
    let same = words_are line words are in
    rw (over, same, full) refl

pub line_says : (actors : List ActorDecl) (begun : Bool) (reads : ℕ) (line : List ℕ) (words : List (List ℕ)) (said : Meaning) → HasWords line words → Says actors begun reads words said → line_meaning actors begun reads line ≡ Ok said
line_says actors begun reads line words said has says = as_words actors begun reads line words has.said has.are (none_empty words has.full) ∙ says_so actors begun reads words said says

-- ---- its first fault

none_before : (before : Script) (words : List (List ℕ)) (other : Kind) → order other < order kinds.Spaces → HasKind before words other → ⊥
none_before before words kinds.Long earlier has = has
none_before before words kinds.Spaces earlier has = omega arith
none_before before words kinds.Actor earlier has = omega arith
none_before before words kinds.Word earlier has = omega arith
none_before before words kinds.Count earlier has = omega arith
none_before before words kinds.Number earlier has = omega arith
none_before before words kinds.Name earlier has = omega arith
none_before before words kinds.Data earlier has = omega arith
none_before before words kinds.Reads earlier has = omega arith

spaces_first : (before : Script) (words : List (List ℕ)) → Contains words [] → IsFirst before words kinds.Spaces
spaces_first before words there = record { has = there; first = none_before before words }

only_spaces : (before : Script) (words : List (List ℕ)) (kind : Kind) → Contains words [] → IsFirst before words kind → kind ≡ kinds.Spaces
only_spaces before words kinds.Long there first = absurd first.has
only_spaces before words kinds.Spaces there first = refl
only_spaces before words kinds.Actor there first = absurd (first.first kinds.Spaces (omega arith) there)
only_spaces before words kinds.Word there first = absurd (first.first kinds.Spaces (omega arith) there)
only_spaces before words kinds.Count there first = absurd (first.first kinds.Spaces (omega arith) there)
only_spaces before words kinds.Number there first = absurd (first.first kinds.Spaces (omega arith) there)
only_spaces before words kinds.Name there first = absurd (first.first kinds.Spaces (omega arith) there)
only_spaces before words kinds.Data there first = absurd (first.first kinds.Spaces (omega arith) there)
only_spaces before words kinds.Reads there first = absurd (first.first kinds.Spaces (omega arith) there)

module _ (before : Script) (begun : Bool) (reads : ℕ) (stands : IsPlace before begun reads) where
  words_fault : (words : List (List ℕ)) (kind : Kind) → words ≢ [] → Full words → meaning_of before.actors begun reads (spoken words) ≡ Err kind → IsFirst before words kind
  words_fault [] kind some full is = absurd (some refl)
  words_fault (whose ∷ behind) kind some full is = first_found before begun reads stands whose behind kind full is

  words_first : (words : List (List ℕ)) (kind : Kind) → words ≢ [] → Full words → IsFirst before words kind → meaning_of before.actors begun reads (spoken words) ≡ Err kind
  words_first [] kind some full first = absurd (some refl)
  words_first (whose ∷ behind) kind some full first = first_is_found before begun reads stands whose behind kind full first

  pub line_fault : (line : List ℕ) (kind : Kind) → line_meaning before.actors begun reads line ≡ Err kind → (IsPassed line → ⊥) × IsFirst before (words_of line) kind
  line_fault line kind is = by (is_passed line) (list_any is_empty (words_of line)) refl refl is
    where
      by : (over spaced : Bool) → is_passed line ≡ over → list_any is_empty (words_of line) ≡ spaced → cond over (Ok meaning.Passed) (cond spaced (Err kinds.Spaces) (meaning_of before.actors begun reads (spoken (words_of line)))) ≡ Err kind → (IsPassed line → ⊥) × IsFirst before (words_of line) kind
      by true spaced over_is spaced_is read = cc
      by false true over_is spaced_is read = let same = same_kind kinds.Spaces kind read in (not_passed line over_is, rw (← same) (spaces_first before (words_of line) (empty_word (words_of line) spaced_is)))
      by false false over_is spaced_is read =
          let are = are_words line in
          let full = full_words (words_of line) spaced_is in
          (not_passed line over_is, words_fault (words_of line) kind are.some (recursion_from_All (λ word. word ≢ []) (words_of line) full) read)

  pub line_first : (line : List ℕ) (words : List (List ℕ)) (kind : Kind) → (IsPassed line → ⊥) → AreWords line words → IsFirst before words kind → line_meaning before.actors begun reads line ≡ Err kind
  line_first line words kind said are first = by (list_any is_empty words) refl
    where
      spaced : list_any is_empty words ≡ true → line_meaning before.actors begun reads line ≡ Err kinds.Spaces
      spaced is = let over = is_said line said in let same = words_are line words are in rw (over, same, is) refl

      by : (b : Bool) → list_any is_empty words ≡ b → line_meaning before.actors begun reads line ≡ Err kind
      by true is = spaced is ∙ ap (λ k. Err k) (sym (only_spaces before words kind (empty_word words is) first))
      by false is = as_words before.actors begun reads line words said are is ∙ words_first words kind are.some (recursion_from_All (λ word. word ≢ []) words (full_words words is)) first
