-- The words of a line that its meaning stands on.
use Rattle.std.specs.Prelude.{◌≡◌, ℕ, ◌+◌, List, [], ◌∷◌, length}
use Rattle.std.specs.List.{list_any}
use Rattle.plfs_types.specs.Parts.{is_empty}
use Rattle.script_lang.specs.Words.{first_word, later_words}

-- how many words there are, and the first four; one that isn't there is empty
pub record Spoken : Type 0 where
  pub count : ℕ
  pub first : List ℕ
  pub second : List ℕ
  pub third : List ℕ
  pub fourth : List ℕ

abbrev pub spoken : List (List ℕ) → Spoken
spoken words = record {
  count = length words;
  first = first_word words;
  second = first_word (later_words words);
  third = first_word (later_words (later_words words));
  fourth = first_word (later_words (later_words (later_words words)));
}

-- one for a word that is there, and none for the empty one
abbrev pub one_word : List ℕ → ℕ
one_word [] = 0
one_word (b ∷ bytes) = 1

-- the first of these words isn't empty, and the others stand behind it; the first and the others of no words are empty
pub record IsNext (words : List (List ℕ)) (word : List ℕ) (others : List (List ℕ)) : Type 0 where
  pub first : word ≡ first_word words
  pub behind : others ≡ later_words words
  pub counted : length words ≡ one_word word + length others
  pub none_empty : list_any is_empty words ≡ list_any is_empty others
