-- What a caller by itself copied.
use Rattle.std.specs.Prelude.{◌≡◌, ℕ, ◌+◌, List, [], ◌∷◌, length}
use Rattle.edge_io.specs.Source.{Given, HandsOver}
use Rattle.mount_model.specs.History.{Event, state_after}
use Rattle.mount_model.specs.Paths.{Name}
use Rattle.mount_model.specs.State.{State}
use Rattle.mount_sound.specs.Ledger.{Written}
use Rattle.mount_sound.specs.Owed.{IsLawful}
use Rattle.reader_laws.specs.Moments.{Dropping, Moment, moment_after}
use Rattle.reader_laws.specs.Naming.{IsRoomNamed}
use Rattle.packing_laws.specs.Lasting.{KeepsWrites}
use Rattle.copy_core.specs.declared.copying.Copied.{Copied}
use Rattle.copy_core.specs.Blocks.{AreBlocks, joined}
use Rattle.copy_core.specs.Writing.{EndsAs}
use Rattle.put_program.specs.Shown.{ShowsOnly}

-- Each of the writes is one of the blocks, in their order, one behind the other from this place on.
abbrev pub ArePlaced : ℕ → List (List ℕ) → List Written → Type 0
ArePlaced at [] [] = Unit {0}
ArePlaced at [] (w ∷ writes) = ⊥
ArePlaced at (block ∷ blocks) [] = ⊥
ArePlaced at (block ∷ blocks) (w ∷ writes) = (w.entry.at ≡ at) × (w.bytes ≡ block) × ArePlaced (at + length block) blocks writes

-- A writer with this id, of the container that had this name as it was opened, wrote these blocks from the file's first byte on. No loss of power takes one of
-- its writes, and no other write shows there.
pub record HasCopied (name : Name) (blocks : List (List ℕ)) (id : ℕ) (start : Moment) (end : State) : Type 0 where
  pub opening : List Event
  pub lawful : IsLawful start.state opening
  pub writer : Dropping
  pub is : writer.writer ≡ id
  pub named : IsRoomNamed (moment_after start opening) name writer.room
  pub events : List Event
  pub lawful_then : IsLawful (moment_after start opening).state events
  pub ends : state_after (moment_after start opening).state events ≡ end
  pub writes : List Written
  pub placed : ArePlaced 0 blocks writes
  pub keeps : KeepsWrites (moment_after (moment_after start opening) events) writer writes
  pub shows_only : ShowsOnly (moment_after (moment_after start opening) events) writer writes

-- the moment behind all of it
abbrev pub copied_by : {name : Name} {blocks : List (List ℕ)} {id : ℕ} {end : State} (start : Moment) → HasCopied name blocks id start end → Moment
copied_by start c = moment_after (moment_after start c.opening) c.events

-- So the bytes that were taken from the source were copied as blocks and counted, up to where it ended or failed.
pub record IsKeptCopy (name : Name) (start : Moment) (old : Given) (copied : Copied) (end : State) (new : Given) : Type 0 where
  pub blocks : List (List ℕ)
  pub are : AreBlocks blocks
  pub handed : HandsOver (joined blocks) old.left new.left
  pub ends : EndsAs copied.is_whole old new
  pub count : copied.bytes ≡ length (joined blocks)
  pub copy : HasCopied name blocks copied.writer start end
