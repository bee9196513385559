-- How bytes stand in lines, and a line in words.
use Rattle.std.specs.Prelude.{◌≡◌, ℕ, All, List, [], ◌∷◌, ◌++◌}
use Rattle.plfs_types.specs.Parts.{Lacks, ended}

-- the bytes behind the last line feed are a line where there are some
abbrev pub unless_empty : List ℕ → List (List ℕ)
unless_empty [] = []
unless_empty (b ∷ bytes) = (b ∷ bytes) ∷ []

-- the bytes are these lines: each ends with a line feed, which the last may lack where it has bytes
pub record AreLines (bytes : List ℕ) (lines : List (List ℕ)) : Type 0 where
  pub fed : List (List ℕ)
  pub last : List ℕ
  pub apart : All (Lacks 10) fed
  pub last_apart : Lacks 10 last
  pub spelled : bytes ≡ ended fed ++ last
  pub are : lines ≡ fed ++ unless_empty last
