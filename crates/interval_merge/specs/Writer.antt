-- Entries as pieces.
use Rattle.std.specs.Prelude.{ℕ, ◌+◌, ◌≤◌, List, [], ◌∷◌}
use Rattle.plfs_types.specs.declared.entries.Entry.{Entry}
use Rattle.plain_file.specs.declared.pieces.Piece.{Piece}
use Rattle.plain_file.specs.Runs.{IsPiece}

-- the whole entry as a piece
abbrev pub piece_of : Entry → Piece
piece_of e = record { at = e.at; len = e.len; physical = e.physical; stamp = e.stamp; writer = e.writer }

-- an entry has bytes, ends within 2^40, and its end in the log has 64 bits
abbrev pub HasPiece : Entry → Type 0
HasPiece e = IsPiece (piece_of e)

-- each entry begins at or past the end of the one before it, and the first at or past this byte
abbrev pub AscendFrom : ℕ → List Entry → Type 0
AscendFrom from [] = Unit {0}
AscendFrom from (e ∷ entries) = (from ≤ e.at) × AscendFrom (e.at + e.len) entries
