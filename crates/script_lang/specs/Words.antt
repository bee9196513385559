-- Lines and words: what stands between line feeds, and between spaces.
use Rattle.std.specs.Prelude.{ℕ, ◌==◌, Bool, true, List, [], ◌∷◌}
use Rattle.plfs_types.specs.Parts.{parts_of}

-- the lines of a script; behind the last line feed stands an empty line, which says nothing
abbrev pub lines_of : List ℕ → List (List ℕ)
lines_of bytes = parts_of 10 bytes

-- a line that is passed over: an empty one, or a comment
abbrev pub is_passed : List ℕ → Bool
is_passed [] = true
is_passed (b ∷ bs) = b == 35

-- the first word, and where there is none the empty one
abbrev pub first_word : List (List ℕ) → List ℕ
first_word [] = []
first_word (w ∷ ws) = w

-- the words behind the first
abbrev pub later_words : List (List ℕ) → List (List ℕ)
later_words [] = []
later_words (w ∷ ws) = ws
