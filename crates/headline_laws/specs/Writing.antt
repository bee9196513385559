-- What the lines of a writer's statements show of the one writer that an actor has open.
use Rattle.std.specs.Prelude.{◌≡◌, ◌⊎◌, ⊤, ℕ, List, [], ◌++◌, length, Option, Some, None}
use Rattle.mount_model.specs.History.{Event}
use Rattle.mount_model.specs.Paths.{Name}
use Rattle.script_lang.specs.declared.line.Outcome.{Outcome}
use Rattle.script_lang.specs.declared.line.Outcome.TheVariants.{Closed, Fault, Gone, Opened, Stopped, Synced, Wrote}
use Rattle.script_lang.specs.declared.line.Why.TheVariants.{AlreadyOpen, NotOpen}
use Rattle.script_lang.specs.declared.script.Statement.{Statement}
use Rattle.script_lang.specs.declared.script.Statement.TheVariants.{Close, Open, Sync, Write}
use Rattle.outcomes.specs.Data.{bytes_of}
use Rattle.reader_laws.specs.Bounds.{IsSyncedIn}
use Rattle.reader_laws.specs.Moments.{Moment}
use Rattle.headline_laws.specs.Ending.{DoesNothing}
use Rattle.headline_laws.specs.OneWriter.{OneWriter, OpensOneWriter, WritesNone, WritesOnce, one_more}
use Rattle.headline_laws.specs.Opening.{Stretch}

-- the writer stays open, or none is, and no write was answered; nothing more is said of an actor that was stopped, since it makes no more calls
abbrev pub StaysOpen : List Event → Option OneWriter → Outcome → Option OneWriter → Type 0
StaysOpen events old Stopped new = new ≡ old
StaysOpen events old Gone new = new ≡ old
StaysOpen events old other new = (new ≡ old) × WritesNone old events

-- no line of a writer's statement
abbrev pub TellsOfNoWriter : Outcome → Type 0
TellsOfNoWriter (Opened id) = ⊥
TellsOfNoWriter (Wrote place len stamp) = ⊥
TellsOfNoWriter (Synced landed) = ⊥
TellsOfNoWriter (Closed landed) = ⊥
TellsOfNoWriter other = ⊤

-- it stays, and the line is none of these
abbrev pub ShowsNoWriting : List Event → Option OneWriter → Outcome → Option OneWriter → Type 0
ShowsNoWriting events old outcome new = TellsOfNoWriter outcome × StaysOpen events old outcome new

-- it opens the writer of this id, which the actor has then, or it has none
abbrev pub ShowsWriterOpened : Moment → ℕ → Stretch → Name → Outcome → Option OneWriter → Type 0
ShowsWriterOpened start caller stretch name (Opened id) new = (writer : OneWriter) × (new ≡ Some writer) × (id ≡ writer.dropping.writer) × OpensOneWriter start caller stretch name writer
ShowsWriterOpened start caller stretch name other new = TellsOfNoWriter other × (new ≡ None)

-- the bytes are written at this place, and the writer has one write more; no bytes are no write
abbrev pub ShowsWritten : ℕ → Stretch → OneWriter → ℕ → List ℕ → Outcome → Option OneWriter → Type 0
ShowsWritten caller stretch writer at bytes (Wrote place len (Some stamp)) new = (place ≡ at) × (len ≡ length bytes) × (new ≡ Some (one_more writer)) × WritesOnce caller stretch.events writer at bytes stamp
ShowsWritten caller stretch writer at bytes (Wrote place len None) new = (place ≡ at) × (len ≡ 0) × (bytes ≡ []) × StaysOpen stretch.events (Some writer) (Wrote place len None) new
ShowsWritten caller stretch writer at bytes other new = ShowsNoWriting stretch.events (Some writer) other new

-- The number is that of the writer's writes that were answered, and in this statement the writer was told that so many of its entries are synced.
abbrev pub ShowsSynced : Stretch → OneWriter → Outcome → Option OneWriter → Type 0
ShowsSynced stretch writer (Synced landed) new = (landed ≡ writer.count) × IsSyncedIn stretch.events writer.dropping landed × StaysOpen stretch.events (Some writer) (Synced landed) new
ShowsSynced stretch writer other new = ShowsNoWriting stretch.events (Some writer) other new

-- The same of a close, or of one before it that went as far: they are synced by its end. After a fault the writer may be open or not.
abbrev pub ShowsClosed : Stretch → OneWriter → Outcome → Option OneWriter → Type 0
ShowsClosed stretch writer (Closed landed) new = (landed ≡ writer.count) × IsSyncedIn (stretch.before ++ stretch.events) writer.dropping landed × (new ≡ None)
ShowsClosed stretch writer Fault new = WritesNone (Some writer) stretch.events × ((new ≡ Some writer) ⊎ (new ≡ None))
ShowsClosed stretch writer other new = ShowsNoWriting stretch.events (Some writer) other new

-- ---- statements

-- it goes so where a writer is open, and else nothing is done
abbrev pub IfWriting : Option OneWriter → Outcome → Option OneWriter → (OneWriter → Type 0) → Type 0
IfWriting None outcome new shows = (new ≡ None) × DoesNothing NotOpen outcome
IfWriting (Some writer) outcome new shows = shows writer

abbrev pub UnlessWriting : List Event → Option OneWriter → Outcome → Option OneWriter → Type 0 → Type 0
UnlessWriting events None outcome new shows = shows
UnlessWriting events (Some writer) outcome new shows = DoesNothing AlreadyOpen outcome × StaysOpen events (Some writer) outcome new

-- In this stretch the caller makes a statement. It had this writer open before it, or none, and has that one or none after it. Its line shows so much.
abbrev pub ShowsWriting : Moment → ℕ → Stretch → Option OneWriter → Statement → Outcome → Option OneWriter → Type 0
ShowsWriting start caller stretch old (Open name) outcome new = UnlessWriting stretch.events old outcome new (ShowsWriterOpened start caller stretch name outcome new)
ShowsWriting start caller stretch old (Write at content) outcome new = IfWriting old outcome new (λ writer. ShowsWritten caller stretch writer at (bytes_of content) outcome new)
ShowsWriting start caller stretch old Sync outcome new = IfWriting old outcome new (λ writer. ShowsSynced stretch writer outcome new)
ShowsWriting start caller stretch old Close outcome new = IfWriting old outcome new (λ writer. ShowsClosed stretch writer outcome new)
ShowsWriting start caller stretch old other outcome new = ShowsNoWriting stretch.events old outcome new
