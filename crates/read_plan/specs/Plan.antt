-- Which parts a range of a file has.
use Rattle.std.specs.Prelude.{ℕ, ◌+◌, ◌-◌, ◌==◌, if◌then◌else◌, List, [], ◌∷◌, ◌++◌}
use Rattle.plain_file.specs.declared.pieces.Piece.{Piece}
use Rattle.read_plan.specs.declared.part.Part.{Part}
use Rattle.read_plan.specs.declared.part.Part.TheVariants.{Hole, From}
use Rattle.read_plan.specs.Ranges.{end_of, pieces_in_range}

-- the bytes of a piece
abbrev pub piece_part : Piece → Part
piece_part p = From p.writer p.physical p.len

-- a hole, unless it is empty
abbrev pub hole : ℕ → List Part
hole len = if len == 0 then [] else Hole len ∷ []

-- a part for each piece, and a hole for each gap, from one byte up to another
abbrev pub filled : ℕ → ℕ → List Piece → List Part
filled from until [] = hole (until - from)
filled from until (p ∷ pieces) = hole (p.at - from) ++ piece_part p ∷ filled (p.at + p.len) until pieces

-- the parts of a read of `len` bytes from `at` on, of a file of this size that has these pieces
abbrev pub plan_of : List Piece → ℕ → ℕ → ℕ → List Part
plan_of pieces size at len = filled at (end_of size at len) (pieces_in_range at (end_of size at len) pieces)
