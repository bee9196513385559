-- What a line is read as.
use Rattle.std.specs.Prelude.{ℕ, List, ◌++◌, Option, codes, unwrap_or}

-- the text of a line, or where it is cut, one that says so
abbrev pub shown : Option (List ℕ) → List ℕ
shown line = unwrap_or line (codes "no memory for this line")

-- a deed and what came of it, as a line
abbrev pub differing : List ℕ → List ℕ → List ℕ
differing deed told = deed ++ codes ": " ++ told ++ codes "\n"
