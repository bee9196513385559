-- What the parser takes: each verb with its operands, and nothing else.
use Rattle.std.proofs.Common.{◌≡◌, ◌∙◌, ◌||◌, Bool, true, false, cond, refl, sym, ap, ap₂, subst, List, [], ◌∷◌, map, Option, Some, None, codes}
use Rattle.std.specs.Prelude.{find, is_some, option_map}
use Rattle.std.specs.List.{fold}
use Rattle.std.specs.Option.{option_map_or}
use Rattle.std.specs.Str.{bytes_eq}
use Rattle.std.proofs.lemmas.Slice.Eq.{bytes_eq-Decides}
use Rattle.clap.specs.Words.{App, Kinds, Shape, Text, fault_of, subcommand_of}
use Rattle.clap.specs.Kinds.{or_else}
use Rattle.clap.specs.Faults.{built_fault, entered_fault, level_fault, walk_fault}
use Rattle.clap.specs.Simple.{built, entered, label_of, names_of, new_shape, rows_at}
use Rattle.clap.specs.Walk.{Names, Walk, answers_to, idle, nothing_held, subcommand_met, walk, walked}
use Rattle.clap.specs.declared.error.kind.ErrorKind.TheVariants as kind
use Rattle.clap.proofs.OnLiterals.{clap_on_literals}
use Rattle.command_line.specs.Parser.{parser, spelled}
use Rattle.command_line.proofs.Leaves.{AreOperands, Fill, Operands, bare, end_fault, leaf, leaf_fault, leaf_filled, leaf_spells, leaf_takes, one, stray, two}
use Rattle.command_line.proofs.Walking.{looking, met, turn_met, turns_behind, walk_behind, walk_met}

abbrev pub Verb : Type 0
Verb = Text × Operands

-- the program, as it is built
abbrev top : Shape
top = record (new_shape (codes "plfs")) { no_binary_name = true; disable_help_flag = true; disable_help_subcommand = true; is_leaf = false; is_built = true }

abbrev program : List Verb → App
program verbs = record { top = top; subs = map leaf verbs }

-- its verbs
abbrev pub verbs : List Verb
verbs =
    (codes "run", bare) ∷ (codes "play", bare) ∷ (codes "ls", bare) ∷ (codes "gen", one) ∷ (codes "cat", one) ∷ (codes "stat", one) ∷ (codes "map", one)
    ∷ (codes "flatten", one) ∷ (codes "recover", one) ∷ (codes "migrate", one) ∷ (codes "names", one) ∷ (codes "trunc", two) ∷ (codes "rename", two) ∷ (codes "pack", two) ∷ (codes "unpack", two) ∷ []

built_is : built parser ≡ program verbs
unfolding parser
built_is = refl

abbrev is_verb : Text → Verb → Bool
is_verb word verb = bytes_eq verb.0 word

-- ---- looking a verb up

name_met : (all : List Verb) (word : Text) → subcommand_met (names_of (program all)) idle word ≡ option_map (λ (v : Verb). v.0) (find (is_verb word) all)
name_met [] word = refl
name_met (verb ∷ all) word = go (bytes_eq verb.0 word) (name_met all word)
  where
    go : (b : Bool) → subcommand_met (names_of (program all)) idle word ≡ option_map (λ (v : Verb). v.0) (find (is_verb word) all)
        → option_map (λ (s : Text × List Text). s.0) (cond (b || false) (Some (verb.0, [])) (find (answers_to word) (names_of (program all))))
        ≡ option_map (λ (v : Verb). v.0) (cond b (Some verb) (find (is_verb word) all))
    go true is = refl
    go false is = is

leaf_met : (all : List Verb) (word : Text) → find (λ s. answers_to word (label_of s)) (map leaf all) ≡ option_map leaf (find (is_verb word) all)
leaf_met [] word = refl
leaf_met (verb ∷ all) word = go (bytes_eq verb.0 word) (leaf_met all word)
  where
    go : (b : Bool) → find (λ s. answers_to word (label_of s)) (map leaf all) ≡ option_map leaf (find (is_verb word) all)
        → cond (b || false) (Some (leaf verb)) (find (λ s. answers_to word (label_of s)) (map leaf all)) ≡ option_map leaf (cond b (Some verb) (find (is_verb word) all))
    go true is = refl
    go false is = is

same_word : (all : List Verb) (word : Text) (verb : Verb) → find (is_verb word) all ≡ Some verb → verb.0 ≡ word
same_word [] word verb is = cc
same_word (first ∷ all) word verb is = go (bytes_eq first.0 word) ((bytes_eq-Decides first.0 word).0) (same_word all word verb) is
  where
    go : (b : Bool) → (b ≡ true → first.0 ≡ word) → (find (is_verb word) all ≡ Some verb → verb.0 ≡ word) → cond b (Some first) (find (is_verb word) all) ≡ Some verb
        → verb.0 ≡ word
    go true same behind e = let one : first ≡ verb = cc in ap (λ (v : Verb). v.0) (sym one) ∙ same refl
    go false same behind e = behind e

-- ---- a verb and the words behind it

abbrev top_fault : List Verb → Walk → Kinds → Kinds
top_fault all w turns = end_fault top (is_some (entered (program all) w.stopped)) (entered_fault (program all) w.stopped) w turns

or_else-end : (kinds : Kinds) → or_else kinds [] ≡ kinds
or_else-end [] = refl
or_else-end (k ∷ ks) = refl

module _ (all : List Verb) (verb : Verb) (rest : List Text) where
  abbrev names : Names
  names = names_of (program all)

  abbrev whole : List Text
  whole = verb.0 ∷ rest

  met_is : find (is_verb verb.0) all ≡ Some verb → subcommand_met names idle verb.0 ≡ Some verb.0
  met_is found = name_met all verb.0 ∙ ap (option_map (λ (v : Verb). v.0)) found

  walk_is : find (is_verb verb.0) all ≡ Some verb → walk [] names nothing_held whole ≡ met verb.0 rest
  walk_is found = ap (λ w. fold (walked [] names) w rest) (walk_met [] names verb.0 verb.0 (met_is found)) ∙ walk_behind [] names verb.0 [] rest

  turns_are : find (is_verb verb.0) all ≡ Some verb → walk_fault top names (looking nothing_held 1) whole ≡ []
  unfolding walk_fault
  turns_are found =
      ap₂ or_else (turn_met top names verb.0 verb.0 refl (met_is found))
      (ap (λ w. walk_fault top names w rest) (walk_met [] names verb.0 verb.0 (met_is found)) ∙ turns_behind top names verb.0 [] rest)

  -- the fault is that of the subcommand at the words behind the verb
  pub fault_behind : find (is_verb verb.0) all ≡ Some verb → built_fault (program all) nothing_held whole ≡ leaf_fault verb rest
  unfolding clap_on_literals
  fault_behind found =
      ap₂ (top_fault all) (walk_is found) (turns_are found)
      ∙ ap (λ o. end_fault top (is_some (option_map (λ s. rows_at s rest) o)) (option_map_or (λ s. level_fault s [] nothing_held rest false []) o []) (met verb.0 rest) []) (leaf_met all verb.0 ∙ ap (option_map leaf) found)
      ∙ or_else-end (leaf_fault verb rest)

  -- and so are the matches
  pub matches_behind : find (is_verb verb.0) all ≡ Some verb → entered (program all) (walk [] names nothing_held whole).stopped ≡ Some (rows_at (leaf verb) rest)
  matches_behind found =
      ap (λ (w : Walk). entered (program all) w.stopped) (walk_is found)
      ∙ ap (option_map (λ s. rows_at s rest)) (leaf_met all verb.0 ∙ ap (option_map leaf) found)

-- ---- the law of the parser

fault_is : (words : List Text) → fault_of parser words ≡ built_fault (program verbs) nothing_held words
unfolding parser
fault_is words = refl

subcommand_is : (words : List Text) → subcommand_of parser words ≡ entered (program verbs) (walk [] (names_of (program verbs)) nothing_held words).stopped
unfolding parser
subcommand_is words = refl

-- a verb with its operands is taken
pub takes_verb : (verb : Verb) (rest : List Text) → find (is_verb verb.0) verbs ≡ Some verb → AreOperands rest → Fill verb.1 rest → fault_of parser (verb.0 ∷ rest) ≡ []
takes_verb verb rest found plain fill = fault_is (verb.0 ∷ rest) ∙ fault_behind verbs verb rest found ∙ leaf_takes verb rest plain fill

-- words of a verb that are taken are what the matches spell
spells_verb : (verb : Verb) (rest : List Text) → find (is_verb verb.0) verbs ≡ Some verb → AreOperands rest → fault_of parser (verb.0 ∷ rest) ≡ [] → spelled (subcommand_of parser (verb.0 ∷ rest)) ≡ verb.0 ∷ rest
spells_verb verb rest found plain none =
    let fill = leaf_filled verb rest plain (sym (fault_is (verb.0 ∷ rest) ∙ fault_behind verbs verb rest found) ∙ none) in
    ap spelled (subcommand_is (verb.0 ∷ rest) ∙ matches_behind verbs verb rest found) ∙ leaf_spells verb rest plain fill

-- words that are taken are what the matches spell
pub spells_taken : (words : List Text) → AreOperands words → fault_of parser words ≡ [] → spelled (subcommand_of parser words) ≡ words
unfolding clap_on_literals
spells_taken [] plain none = ap spelled (subcommand_is [])
spells_taken (word ∷ rest) plain none = go (find (is_verb word) verbs) refl
  where
    go : (o : Option Verb) → find (is_verb word) verbs ≡ o → spelled (subcommand_of parser (word ∷ rest)) ≡ word ∷ rest
    go (Some verb) found =
        let same = same_word verbs word verb found in
        let found_again : find (is_verb verb.0) verbs ≡ Some verb = ap (λ w. find (is_verb w) verbs) same ∙ found in
        let P : Text → Type 0 = λ w. spelled (subcommand_of parser (w ∷ rest)) ≡ w ∷ rest in
        subst P same (spells_verb verb rest found_again plain.1 (ap (λ w. fault_of parser (w ∷ rest)) same ∙ none))
    go None missing =
        absurd (stray top (names_of (program verbs)) _ _ (walk [] (names_of (program verbs)) nothing_held (word ∷ rest)) nothing_held 1 word rest kind.UnknownArgument (kind.InvalidSubcommand ∷ []) plain.0
        (name_met verbs word ∙ ap (option_map (λ (v : Verb). v.0)) missing) refl (sym (fault_is (word ∷ rest)) ∙ none))
