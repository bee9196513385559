-- The covers and pieces that bytes spell, valid or not.
use Rattle.std.specs.Prelude.{ℕ, ◌+◌, ◌*◌, List, drop}
use Rattle.plfs_types.specs.declared.entries.Cover.{Cover}
use Rattle.plfs_types.specs.declared.entries.Entry.{Entry}
use Rattle.plfs_types.specs.declared.limits.TheConstants.{ENTRY_SIZE}
use Rattle.plain_file.specs.declared.pieces.Piece.{Piece}
use Rattle.index_entry.specs.Records.{records_in}
use Rattle.index_entry.specs.Spelling.{number_in, entry_in}
use Rattle.flat_format.specs.declared.flat.TheConstants.{HEAD_SIZE, COVER_SIZE}
use Rattle.flat_format.specs.declared.flat.Flat.{Flat}

-- the cover that the first bytes spell, valid or not
unfoldable pub cover_in : List ℕ → Cover
cover_in bytes = record { writer = number_in 0 bytes; count = number_in 8 bytes; bytes = number_in 16 bytes; stamp = number_in 24 bytes }

abbrev pub as_piece : Entry → Piece
as_piece e = record { at = e.at; len = e.len; physical = e.physical; stamp = e.stamp; writer = e.writer }

-- the piece that the first bytes spell, valid or not
abbrev pub piece_in : List ℕ → Piece
piece_in bytes = as_piece (entry_in bytes)

-- so many covers, behind the head
abbrev pub covers_in : ℕ → List ℕ → List Cover
covers_in count bytes = records_in cover_in COVER_SIZE count (drop HEAD_SIZE bytes)

-- so many pieces from this place on
abbrev pub pieces_in : ℕ → ℕ → List ℕ → List Piece
pieces_in place count bytes = records_in piece_in ENTRY_SIZE count (drop place bytes)

-- what the bytes spell by their counts, valid or not
unfoldable pub flat_in : List ℕ → Flat
flat_in bytes = record {
  covers = covers_in (number_in 8 bytes) bytes;
  pieces = pieces_in (HEAD_SIZE + COVER_SIZE * number_in 8 bytes) (number_in 16 bytes) bytes;
}
