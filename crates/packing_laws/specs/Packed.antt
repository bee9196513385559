-- What a caller by itself packed.
use Rattle.std.specs.Prelude.{◌≡◌, ◌≤◌, ℕ, ◌+◌, List, [], ◌∷◌}
use Rattle.mount_model.specs.History.{Event, state_after}
use Rattle.mount_model.specs.Paths.{Name}
use Rattle.mount_model.specs.State.{State}
use Rattle.mount_sound.specs.Ledger.{Written}
use Rattle.mount_sound.specs.Owed.{IsLawful}
use Rattle.unit_format.specs.Units.{unit_size, unit_spelling}
use Rattle.reader_laws.specs.Moments.{Dropping, Moment, moment_after}
use Rattle.reader_laws.specs.Naming.{IsRoomNamed}
use Rattle.pack_input.specs.declared.files.NamedFile.{NamedFile}
use Rattle.pack_laws.specs.Scanned.{region_start, region_stop}
use Rattle.lone_flow.specs.Putting.{small_file}
use Rattle.packing_laws.specs.Lasting.{KeepsWrites}

-- Each of the writes is the unit of one of the files, in their order, one behind the other from the first place up to the second.
abbrev pub ArePuts : ℕ → ℕ → List NamedFile → List Written → Type 0
ArePuts at until [] [] = until ≡ at
ArePuts at until [] (w ∷ writes) = ⊥
ArePuts at until (f ∷ files) [] = ⊥
ArePuts at until (f ∷ files) (w ∷ writes) = (w.entry.at ≡ at) × (w.bytes ≡ unit_spelling (small_file f)) × ArePuts (at + unit_size (small_file f)) until files writes

-- From the start to the end this writer put these files into the region, up to this place. No loss of power takes one of its writes.
pub record HasPut (region : ℕ) (files : List NamedFile) (until : ℕ) (writer : Dropping) (start : Moment) (end : State) : Type 0 where
  pub events : List Event
  pub lawful : IsLawful start.state events
  pub ends : state_after start.state events ≡ end
  pub at : ℕ
  pub writes : List Written
  pub from : region_start region ≤ at
  pub within : until ≤ region_stop region
  pub puts : ArePuts at until files writes
  pub keeps : KeepsWrites (moment_after start events) writer writes

-- So it was put by a writer of the container that had this name as the writer was opened.
pub record HasPacked (name : Name) (region : ℕ) (files : List NamedFile) (until : ℕ) (start : Moment) (end : State) : Type 0 where
  pub opening : List Event
  pub lawful : IsLawful start.state opening
  pub writer : Dropping
  pub named : IsRoomNamed (moment_after start opening) name writer.room
  pub put : HasPut region files until writer (moment_after start opening) end

-- the moment behind all of it
abbrev pub packed_by : {name : Name} {region : ℕ} {files : List NamedFile} {until : ℕ} {end : State} (start : Moment) → HasPacked name region files until start end → Moment
packed_by start p = moment_after (moment_after start p.opening) p.put.events
