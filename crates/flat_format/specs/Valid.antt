-- Which flattened indices are valid.
use Rattle.std.specs.Prelude.{List}
use Rattle.std.specs.List.{AllByRecursion}
use Rattle.plfs_types.specs.declared.entries.Cover.{Cover}
use Rattle.plain_file.specs.declared.pieces.Piece.{Piece}
use Rattle.plain_file.specs.Runs.{AreRuns}
use Rattle.flat_format.specs.declared.flat.Flat.{Flat}
use Rattle.flat_format.specs.Covers.{AreCovers, IsFlatPiece}

-- pieces in order, of which no two neighbours are joinable, each of a covered entry
pub record AreFlatPieces (covers : List Cover) (pieces : List Piece) : Type 0 where
  pub runs : AreRuns pieces
  pub covered : AllByRecursion (IsFlatPiece covers) pieces

pub record IsFlat (flat : Flat) : Type 0 where
  pub covers : AreCovers flat.covers
  pub pieces : AreFlatPieces flat.covers flat.pieces
