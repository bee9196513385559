-- Files that hold the same units of a name, whatever other units they have.
use Rattle.std.specs.Prelude.{◌≡◌, ◌↔◌, ℕ, List, ◌∷◌, Option, Ok}
use Rattle.std.specs.List.{Contains}
use Rattle.index_entry.specs.Records.{IsBytes}
use Rattle.plain_file.specs.declared.pieces.Piece.{Piece}
use Rattle.mount_model.specs.History.{Event}
use Rattle.mount_model.specs.Paths.{Name}
use Rattle.mount_model.specs.State.{State}
use Rattle.mount_sound.specs.Owed.{IsLawful}
use Rattle.index_reader.specs.declared.opened.OpenReader.{OpenReader}
use Rattle.reader_laws.specs.Moments.{Moment, next_moment}
use Rattle.reader_laws.specs.Opened.{HasOpenedIn}
use Rattle.unit_format.specs.declared.finding.Region.{Region}
use Rattle.unit_format.specs.declared.finding.Unit.{Unit as Found}
use Rattle.unit_format.specs.Units.{SmallFile}
use Rattle.pack_laws.specs.Scanned.{TellsUnits}
use Rattle.packing_laws.specs.Seen.{file_seen, moment_seen}
use Rattle.packing_laws.specs.Told.{IsContent, StandsIn}

-- the region of the file has this unit, with its key, and it is that of this small file
pub record HasUnit (pieces : List Piece) (file : List ℕ) (region : ℕ) (u : Found) (f : SmallFile) : Type 0 where
  pub r : Region
  pub tells : TellsUnits pieces region file r
  pub has : Contains r.units u
  pub stands : StandsIn file u f

-- region by region both files have the same units of this name, with the same keys, whatever other units they have
abbrev pub HaveSameUnits : Name → List Piece → List ℕ → List Piece → List ℕ → Type 0
HaveSameUnits name p one q other = (region : ℕ) (u : Found) (f : SmallFile) → u.name ≡ name → (HasUnit p one region u f ↔ HasUnit q other region u f)

-- A caller by itself saw this file, that of a cut between its first call and its listing of truncates, and had this answer of it.
pub record SawContent (file : Name) (start : Moment) (told : Option (List ℕ)) (end : State) : Type 0 where
  pub greeting : Event
  pub opening : List Event
  pub reader : OpenReader
  pub lawful : IsLawful start.state (greeting ∷ opening)
  pub opened : HasOpenedIn 0 (next_moment start greeting) opening reader
  pub answers : IsBytes (file_seen (next_moment start greeting) opening reader opened)
      → IsContent reader.pieces (file_seen (next_moment start greeting) opening reader opened) file (moment_seen (next_moment start greeting) opening reader opened).state end (Ok told)

-- the bytes of that file
abbrev pub bytes_seen : {file : Name} {told : Option (List ℕ)} {end : State} (start : Moment) → SawContent file start told end → List ℕ
bytes_seen start a = file_seen (next_moment start a.greeting) a.opening a.reader a.opened
