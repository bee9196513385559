-- A unit of a name that another one answers for.
use Rattle.std.specs.Prelude.{◌≡◌, ℕ, List}
use Rattle.plain_file.specs.declared.pieces.Piece.{Piece}
use Rattle.mount_model.specs.Paths.{Name}
use Rattle.unit_format.specs.Finding.{IsOlder}
use Rattle.unit_format.specs.declared.finding.Unit.{Unit as Found}
use Rattle.unit_format.specs.Units.{SmallFile}
use Rattle.packing_laws.specs.Isolated.{HasUnit}

-- the file has another unit of this name, at another place, and that isn't older
pub record IsOutranked (pieces : List Piece) (file : List ℕ) (name : Name) (u : Found) : Type 0 where
  pub region : ℕ
  pub unit : Found
  pub file_is : SmallFile
  pub has : HasUnit pieces file region unit file_is
  pub named : unit.name ≡ name
  pub apart : unit.at ≡ u.at → ⊥
  pub no_older : IsOlder unit.key u.key → ⊥
