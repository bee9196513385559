-- The units of a region end in it.
use Rattle.std.proofs.Common.{◌≡◌, ℕ, ◌+◌, ◌≤◌, List, ◌++◌, length, take, drop, ap, arith}
use Rattle.std.proofs.lemmas.List.{length-append, length-take}
use Rattle.plain_file.specs.File.{slice}
use Rattle.plain_file.specs.declared.pieces.Piece.{Piece}
use Rattle.unit_format.specs.declared.finding.Region.{Region}
use Rattle.unit_format.specs.declared.units.TheConstants.{REGION_SIZE}
use Rattle.unit_format.specs.Units.{units_spelling}
use Rattle.pack_laws.specs.Scanned.{TellsUnits, region_start, region_stop}

begins_from : (start end : ℕ) (spelled : List ℕ) → end ≡ start + length spelled → start ≤ end
begins_from start end spelled ends = omega (arith, ends)

ends_in : (start end size : ℕ) (file spelled rest : List ℕ) → slice file start size ≡ spelled ++ rest → end ≡ start + length spelled → end ≤ start + size
ends_in start end size file spelled rest is ends =
    let all : length (take size (drop start file)) ≡ length (spelled ++ rest) = ap (λ (bytes : List ℕ). length bytes) is in
    omega (arith, ends, all, length-append spelled rest, length-take size (drop start file))

pub ends_from : (pieces : List Piece) (region : ℕ) (file : List ℕ) (r : Region) → TellsUnits pieces region file r → region_start region ≤ r.end
ends_from pieces region file r told = begins_from (region_start region) r.end (units_spelling told.files) told.has.ends

pub ends_until : (pieces : List Piece) (region : ℕ) (file : List ℕ) (r : Region) → TellsUnits pieces region file r → r.end ≤ region_stop region
ends_until pieces region file r told = ends_in (region_start region) r.end REGION_SIZE file (units_spelling told.files) told.has.rest told.has.spelled told.has.ends
