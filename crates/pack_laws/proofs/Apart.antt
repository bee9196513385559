-- The units of a region stand one behind the other.
use Rattle.std.proofs.Common.{◌≡◌, ℕ, ◌+◌, ◌<◌, List, [], ◌∷◌, length, refl, sym, subst, arith}
use Rattle.std.specs.List.{All}
use Rattle.std.proofs.lemmas.List.Elements.{All-cons, All-nil}
use Rattle.plain_file.specs.declared.pieces.Piece.{Piece}
use Rattle.unit_format.specs.declared.finding.Region.{Region}
use Rattle.unit_format.specs.declared.finding.Unit.{Unit as Found}
use Rattle.unit_format.specs.Alike.{StandApart}
use Rattle.unit_format.specs.Regions.{placed_at, places_of}
use Rattle.unit_format.specs.Units.{SmallFile, unit_size}
use Rattle.pack_files.specs.Scanning.{unit_of, units_of}
use Rattle.pack_laws.specs.Scanned.{TellsUnits, region_start}

-- units from a place on have their contents past it
all_past : (pieces : List Piece) (n start : ℕ) (files : List SmallFile) → n < start + 16 → All (λ (u : Found). n < u.at) (units_of pieces (places_of start files))
all_past pieces n start [] less = All-nil (λ (u : Found). n < u.at)
all_past pieces n start (f ∷ files) less =
    All-cons (λ (u : Found). n < u.at) (unit_of pieces (placed_at start f)) (units_of pieces (places_of (start + unit_size f) files)) (omega (arith, less))
    (all_past pieces n (start + unit_size f) files (omega (arith, less)))

apart : (pieces : List Piece) (start : ℕ) (files : List SmallFile) → StandApart (units_of pieces (places_of start files))
apart pieces start [] = tt
apart pieces start (f ∷ files) = (all_past pieces (start + 16 + length f.name) (start + unit_size f) files (omega arith), apart pieces (start + unit_size f) files)

pub units_apart : (pieces : List Piece) (region : ℕ) (file : List ℕ) (r : Region) → TellsUnits pieces region file r → StandApart r.units
units_apart pieces region file r told = subst (λ (units : List Found). StandApart units) (sym told.units) (apart pieces (region_start region) told.files)
