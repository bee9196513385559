-- What a line shows of a container that its statement flattened.
use Rattle.std.specs.Prelude.{◌≡◌, ℕ, List, [], ◌∷◌, ◌++◌, length, Some}
use Rattle.plfs_types.specs.declared.entries.WriterCount.{WriterCount}
use Rattle.plain_file.specs.declared.pieces.Piece.{Piece}
use Rattle.plain_file.specs.Runs.{ArePieces}
use Rattle.store_api.specs.declared.tree.Tree.{Tree}
use Rattle.mount_model.specs.declared.call.Call.TheVariants.{Find, InstallFlat}
use Rattle.mount_model.specs.declared.reply.Reply.TheVariants.{Done, Room as Found}
use Rattle.mount_model.specs.declared.row.Making.TheVariants as making
use Rattle.mount_model.specs.History.{Event}
use Rattle.mount_model.specs.Paths.{Name}
use Rattle.mount_sound.specs.Flats.{IsRightFlat}
use Rattle.mount_sound.specs.Installed.{IsInstalled}
use Rattle.mount_sound.specs.Ledger.{entries_in}
use Rattle.outcomes.specs.Counts.{counts_of}
use Rattle.reader_laws.specs.Moments.{Moment, moment_after}
use Rattle.headline_laws.specs.Changing.{IsAnswered}
use Rattle.reader_laws.specs.Naming.{IsRoomNamed}
use Rattle.reader_laws.specs.View.{writes_in}
use Rattle.headline_laws.specs.OneFile.{OneFile, printed_cut}
use Rattle.headline_laws.specs.Opening.{SeesOneFile, Stretch}

-- The room has the flattened index of this id, and no loss of power takes a byte of it. It is right for the room: its pieces, so many, are those of the
-- entries that it covers, which have landed there; and these are the first of each writer, as many as the cut says.
pub record IsFlattened (moment : Moment) (room id pieces : ℕ) (cut : List WriterCount) : Type 0 where
  pub tree : Tree
  pub told : moment.state.store.tree ≡ Some tree
  pub bytes : List ℕ
  pub installed : IsInstalled tree room making.Flat id bytes
  pub right : IsRightFlat installed.room bytes
  pub many : pieces ≡ length right.flat.pieces
  pub counts : cut ≡ counts_of right.flat.covers

-- In this stretch the caller found the container of this name, and then installed the flattened index of this id, which stands there then so. It is of what the
-- caller saw of the container from its first call on: as a reader would have, but its pieces are those before any truncate.
pub record FlattensFile (start : Moment) (caller : ℕ) (stretch : Stretch) (name : Name) (id pieces : ℕ) (cut : List WriterCount) : Type 0 where
  pub room : ℕ
  pub earlier : List Event
  pub finding : Event
  pub more : List Event
  pub installing : Event
  pub later : List Event
  pub split : stretch.events ≡ earlier ++ (finding ∷ more ++ installing ∷ later)
  pub finds : IsAnswered caller (Find name) (Found room) finding
  pub named : IsRoomNamed (moment_after start (stretch.before ++ earlier)) name room
  pub installs : IsAnswered caller (InstallFlat id) Done installing
  pub stands : IsFlattened (moment_after start (stretch.before ++ (earlier ++ (finding ∷ more ++ installing ∷ [])))) room id pieces cut
  pub seen : OneFile
  pub sees : SeesOneFile start caller stretch earlier finding seen
  pub in_room : seen.room ≡ room
  pub counted : cut ≡ printed_cut seen.cut
  pub shown : (all : List Piece) × ArePieces (entries_in (writes_in seen.moment seen.cut)) [] all × (pieces ≡ length all)
