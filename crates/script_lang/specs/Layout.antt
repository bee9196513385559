-- How bytes stand in lines, and a line in words.
use Rattle.std.specs.Prelude.{◌≡◌, ◌≢◌, ◌⊎◌, ℕ, All, List, [], ◌∷◌, ◌++◌}
use Rattle.plfs_types.specs.Parts.{Lacks, ended, AreWords}

-- the bytes are these lines; the last may lack its line feed
pub record AreLines (bytes : List ℕ) (lines : List (List ℕ)) : Type 0 where
  pub apart : All (Lacks 10) lines
  pub ends : (bytes ≡ ended lines) ⊎ (bytes ++ 10 ∷ [] ≡ ended lines)

-- a line that is passed over: an empty one, or a comment, which begins with '#'
abbrev pub IsPassed : List ℕ → Type 0
IsPassed [] = Unit {0}
IsPassed (first ∷ others) = first ≡ 35

-- the line says these words: it isn't passed over, and no word is empty
pub record HasWords (line : List ℕ) (words : List (List ℕ)) : Type 0 where
  pub said : IsPassed line → ⊥
  pub are : AreWords line words
  pub full : All (λ word. word ≢ []) words
