-- Covers and pieces are formats.
use Rattle.std.proofs.Common.{◌≡◌, ℕ, List, ◌++◌, refl, ap, arith}
use Rattle.std.proofs.lemmas.Nat.{from_le_bytes-to_le_bytes_8}
use Rattle.plfs_types.specs.declared.entries.Cover.{Cover}
use Rattle.plain_file.specs.declared.pieces.Piece.{Piece}
use Rattle.index_entry.specs.Spelling.{number_in}
use Rattle.index_entry.specs.Records.{IsFormat}
use Rattle.index_entry.proofs.Facts.{grown, number_back, number_fits, entries_format}
use Rattle.flat_format.specs.Covers.{as_entry}
use Rattle.flat_format.specs.Spelling.{cover_spelling, piece_spelling, FitsCover, FitsPiece}
use Rattle.flat_format.specs.Reading.{cover_in, piece_in, as_piece}

pub covers_format : IsFormat Cover 32 cover_spelling cover_in FitsCover
unfolding cover_spelling cover_in
covers_format = record {
  wide = λ c. refl;
  again = λ c rest fits. (
      let a : number_in 0 (cover_spelling c ++ rest) ≡ c.writer = from_le_bytes-to_le_bytes_8 c.writer fits.writer_fits in
      let b : number_in 8 (cover_spelling c ++ rest) ≡ c.count = from_le_bytes-to_le_bytes_8 c.count fits.count_fits in
      let d : number_in 16 (cover_spelling c ++ rest) ≡ c.bytes = from_le_bytes-to_le_bytes_8 c.bytes fits.bytes_fit in
      let e : number_in 24 (cover_spelling c ++ rest) ≡ c.stamp = from_le_bytes-to_le_bytes_8 c.stamp fits.stamp_fits in
      λ i. record { writer = a i; count = b i; bytes = d i; stamp = e i });
  back = λ bytes are long.
      grown 24 bytes _ are (omega arith) (grown 16 bytes _ are (omega arith) (grown 8 bytes _ are (omega arith) (number_back 0 bytes are (omega arith))));
  fits = λ bytes are. record {
    writer_fits = number_fits 0 bytes are;
    count_fits = number_fits 8 bytes are;
    bytes_fit = number_fits 16 bytes are;
    stamp_fits = number_fits 24 bytes are;
  };
}

pub pieces_format : IsFormat Piece 40 piece_spelling piece_in FitsPiece
pieces_format = record {
  wide = λ p. entries_format.wide (as_entry p);
  again = λ p rest fits. ap as_piece (entries_format.again (as_entry p) rest fits);
  back = λ bytes are long. entries_format.back bytes are long;
  fits = λ bytes are. entries_format.fits bytes are;
}
