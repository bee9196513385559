-- Lines and words: what stands between line feeds, and between spaces.
use Rattle.std.specs.Prelude.{ℕ, List, [], ◌∷◌}
use Rattle.pack_input.specs.Layout.{unless_empty}
use Rattle.plfs_types.specs.Parts.{parts_of}

-- without the last one, where that is empty
abbrev pub without_empty_last : List (List ℕ) → List (List ℕ)
without_empty_last [] = []
without_empty_last (line ∷ []) = unless_empty line
without_empty_last (line ∷ next ∷ lines) = line ∷ without_empty_last (next ∷ lines)

-- the lines of an input
abbrev pub lines_of : List ℕ → List (List ℕ)
lines_of bytes = without_empty_last (parts_of 10 bytes)
