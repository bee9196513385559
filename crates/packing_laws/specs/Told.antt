-- What is told of the small files of a file.
use Rattle.std.specs.Prelude.{◌≡◌, ⊤, ℕ, ◌+◌, ◌-◌, List, [], ◌∷◌, length, Option, Some, None, Result, Ok, Err}
use Rattle.plain_file.specs.File.{slice}
use Rattle.plain_file.specs.declared.pieces.Piece.{Piece}
use Rattle.mount_model.specs.History.{Event, state_after}
use Rattle.mount_model.specs.Paths.{Name}
use Rattle.mount_model.specs.State.{State}
use Rattle.mount_sound.specs.Owed.{IsLawful}
use Rattle.store_api.specs.Names.{in_byte_order}
use Rattle.mount_model.specs.declared.stuck.Stuck.{Stuck as Trouble}
use Rattle.reader_laws.specs.Failing.{FailsByStore}
use Rattle.unit_format.specs.declared.finding.Region.{Region}
use Rattle.unit_format.specs.declared.finding.Unit.{Unit as Found}
use Rattle.unit_format.specs.declared.units.TheConstants.{REGIONS}
use Rattle.unit_format.specs.Finding.{IsFileOf, IsUnheld}
use Rattle.unit_format.specs.Regions.{IsBadRegion}
use Rattle.unit_format.specs.Units.{SmallFile, IsSmallFile, unit_size, unit_spelling}
use Rattle.pack_files.specs.declared.scan.ScanStuck.{ScanStuck}
use Rattle.pack_files.specs.declared.scan.ScanStuck.TheVariants.{Bad, Stuck}
use Rattle.pack_laws.specs.Scanned.{TellsUnits, region_bytes, region_start, region_stop}
use Rattle.lone_flow.specs.Naming.{names_in}

-- ---- the regions of a file

-- from this number on these are the regions of the file, with the keys that its pieces say
abbrev pub AreRegionsFrom : List Piece → List ℕ → ℕ → List Region → Type 0
AreRegionsFrom pieces file region [] = ⊤
AreRegionsFrom pieces file region (r ∷ regions) = TellsUnits pieces region file r × AreRegionsFrom pieces file (region + 1) regions

pub record AreRegions (pieces : List Piece) (file : List ℕ) (regions : List Region) : Type 0 where
  pub all : length regions ≡ REGIONS
  pub each : AreRegionsFrom pieces file 0 regions

-- at the unit's place the file has the spelling of this small file
pub record StandsIn (file : List ℕ) (u : Found) (f : SmallFile) : Type 0 where
  pub small : IsSmallFile f
  pub named : u.name ≡ f.name
  pub spelled : slice file (u.at - (16 + length u.name)) (unit_size f) ≡ unit_spelling f

-- the unit of this name that counts is that of a small file of this content
pub record HasContent (pieces : List Piece) (file : List ℕ) (name : Name) (content : List ℕ) : Type 0 where
  pub regions : List Region
  pub are : AreRegions pieces file regions
  pub unit : Found
  pub counts : IsFileOf regions name unit
  pub stands : StandsIn file unit (record { name = name; content = content })

-- no unit has the name
pub record LacksName (pieces : List Piece) (file : List ℕ) (name : Name) : Type 0 where
  pub regions : List Region
  pub are : AreRegions pieces file regions
  pub none : IsUnheld regions name

-- these are the names of all units, in byte order, each once
pub record HasNames (pieces : List Piece) (file : List ℕ) (names : List Name) : Type 0 where
  pub regions : List Region
  pub are : AreRegions pieces file regions
  pub ordered : names ≡ in_byte_order (names_in regions)

-- ---- troubles

-- this is the first place that breaks a rule: the regions before have none
pub record IsFirstBad (pieces : List Piece) (file : List ℕ) (place : ℕ) : Type 0 where
  pub regions : List Region
  pub are : AreRegionsFrom pieces file 0 regions
  pub bad : IsBadRegion (region_start (length regions)) (region_stop (length regions)) (region_bytes (length regions) file) place

-- the store failed between these states
pub record FailsUntil (from end : State) (why : Trouble) : Type 0 where
  pub events : List Event
  pub lawful : IsLawful from events
  pub ends : state_after from events ≡ end
  pub fails : FailsByStore 0 from events why

abbrev pub IsTroubleOf : List Piece → List ℕ → State → State → ScanStuck → Type 0
IsTroubleOf pieces file from end (Bad place) = IsFirstBad pieces file place
IsTroubleOf pieces file from end (Stuck why) = FailsUntil from end why

-- ---- what is told

-- the content of the small file of this name, or none where no unit has the name
abbrev pub IsContent : List Piece → List ℕ → Name → State → State → Result (Option (List ℕ)) ScanStuck → Type 0
IsContent pieces file name from end (Ok None) = LacksName pieces file name
IsContent pieces file name from end (Ok (Some content)) = HasContent pieces file name content
IsContent pieces file name from end (Err why) = IsTroubleOf pieces file from end why

abbrev pub AreNames : List Piece → List ℕ → State → State → Result (List Name) ScanStuck → Type 0
AreNames pieces file from end (Ok names) = HasNames pieces file names
AreNames pieces file from end (Err why) = IsTroubleOf pieces file from end why
