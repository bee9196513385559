-- Words that a parser could take for an option.
use Rattle.std.specs.Prelude.{◌==◌, ℕ, Bool, false, List, [], ◌∷◌}

-- the word begins with '-'
abbrev pub is_option : List ℕ → Bool
is_option [] = false
is_option (first ∷ rest) = first == 45
