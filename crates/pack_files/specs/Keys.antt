-- The key of the first piece that ends past a byte.
use Rattle.std.specs.Prelude.{ℕ, nat_le, if◌then◌else◌, List, [], ◌∷◌}
use Rattle.plfs_types.specs.declared.entries.Key.{Key}
use Rattle.plain_file.specs.declared.pieces.Piece.{Piece}

-- the key of the first piece, where that doesn't begin past this byte, or else zeros
abbrev pub first_key : List Piece → ℕ → Key
first_key [] place = record { stamp = 0; writer = 0 }
first_key (p ∷ pieces) place = if nat_le p.at place then record { stamp = p.stamp; writer = p.writer } else record { stamp = 0; writer = 0 }
