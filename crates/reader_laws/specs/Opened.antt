-- What an open reader has.
use Rattle.std.specs.Prelude.{◌≡◌, ℕ, List, [], ◌∷◌, ◌++◌, map}
use Rattle.plfs_types.specs.declared.entries.Entry.{Entry}
use Rattle.plain_file.specs.File.{plain_size}
use Rattle.plain_file.specs.Runs.{ArePieces}
use Rattle.plain_file.specs.Size.{size_from}
use Rattle.mount_model.specs.History.{Event}
use Rattle.mount_sound.specs.Ledger.{entries_in}
use Rattle.index_reader.specs.declared.gathered.Gathered.{Gathered as Parts}
use Rattle.index_reader.specs.declared.opened.OpenReader.{OpenReader}
use Rattle.reader_laws.specs.Moments.{Moment, moment_after}
use Rattle.reader_laws.specs.Seen.{asked_in, calls_of}
use Rattle.reader_laws.specs.Gathering.{Gathered}
use Rattle.reader_laws.specs.View.{writes_in, changes_in}
use Rattle.reader_laws.specs.GatheringOpening.{HasView, ListsTruncs}
use Rattle.reader_laws.specs.Covering.{counts_in}
use Rattle.index_reader.specs.Hosts.{hosts_of}
use Rattle.reader_laws.specs.Sharing.{host_in_room}

-- The reader is what is made of what was gathered, as `OpenReader::new` makes it.
pub record IsReaderOf (parts : Parts) (reader : OpenReader) : Type 0 where
  pub room : reader.room ≡ parts.room
  pub hosts : reader.hosts ≡ hosts_of parts.droppings
  pub covers : reader.covers ≡ parts.flat.covers
  pub truncates : reader.truncs ≡ parts.truncs
  pub size : reader.size ≡ size_from parts.flat.pieces parts.truncs
  pub pieces : (entries : List Entry) → ArePieces entries [] parts.flat.pieces → ArePieces entries parts.truncs reader.pieces

-- The reader has the file of a cut of its room's writers: the cut lies between these two moments and misses no dropping
-- that stood at the first; the truncates are all of the second; its pieces are those of the cut's writes that the
-- truncates leave, its size is that of their plain file, and its covers are the cut's counts.
pub record HasOpenReader (start end : Moment) (reader : OpenReader) (cut : List Gathered) : Type 0 where
  pub view : HasView start end reader.room cut reader.truncs
  pub hosts : map (host_in_room reader.room) reader.hosts ≡ map (λ (g : Gathered). g.dropping) cut
  pub pieces : ArePieces (entries_in (writes_in end cut)) reader.truncs reader.pieces
  pub size : reader.size ≡ plain_size (changes_in end cut reader.truncs)
  pub covers : reader.covers ≡ counts_in end cut

-- In these events the caller opened the reader: what the reader has lies between the caller's first call and its listing
-- of truncates.
pub record HasOpenedIn (caller : ℕ) (start : Moment) (events : List Event) (reader : OpenReader) : Type 0 where
  pub before : List Event
  pub first : Event
  pub more : List Event
  pub listing : Event
  pub later : List Event
  pub split : events ≡ before ++ (first ∷ more ++ listing ∷ later)
  pub waits : calls_of caller before ≡ []
  pub begins : first.caller ≡ caller
  pub lists : listing.caller ≡ caller
  pub truncates : ListsTruncs reader.room reader.truncs (asked_in listing)
  pub cut : List Gathered
  pub has : HasOpenReader (moment_after start before) (moment_after (moment_after start before) (first ∷ more)) reader cut
