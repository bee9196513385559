-- The pieces of a range of a file, which goes from byte `at` up to byte `until`.
use Rattle.std.specs.Prelude.{ℕ, ◌+◌, ◌-◌, min, max, nat_lt, Bool, List, filter, map}
use Rattle.plain_file.specs.declared.pieces.Piece.{Piece}

-- where a read of `len` bytes from `at` on ends in a file of this size
abbrev pub end_of : ℕ → ℕ → ℕ → ℕ
end_of size at len = at + min len (size - at)

-- the piece has a byte of the range
abbrev pub meets : ℕ → ℕ → Piece → Bool
meets at until p = nat_lt (max at p.at) (min until (p.at + p.len))

-- what the piece has of the range
abbrev pub cut_to_range : ℕ → ℕ → Piece → Piece
cut_to_range at until p = record {
  at = max at p.at;
  len = min until (p.at + p.len) - max at p.at;
  physical = p.physical + (max at p.at - p.at);
  stamp = p.stamp;
  writer = p.writer;
}

-- the pieces that meet the range, in order, each cut to it
abbrev pub pieces_in_range : ℕ → ℕ → List Piece → List Piece
pieces_in_range at until pieces = map (cut_to_range at until) (filter (meets at until) pieces)
