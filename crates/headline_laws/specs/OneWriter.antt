-- The one writer that an actor has open, and what was called for it.
use Rattle.std.specs.Prelude.{◌≡◌, ⊤, ℕ, ◌+◌, List, [], ◌∷◌, ◌++◌, Option, Some, None}
use Rattle.std.specs.List.{Any}
use Rattle.mount_model.specs.declared.call.Call.TheVariants.{Enter, MakeContainer, Write}
use Rattle.mount_model.specs.declared.reply.Reply.TheVariants.{Entered, Room, Wrote}
use Rattle.mount_model.specs.History.{Event}
use Rattle.mount_model.specs.Paths.{Name}
use Rattle.mount_model.specs.Running.{unbroken}
use Rattle.reader_laws.specs.Moments.{Dropping, Moment, moment_after}
use Rattle.writer_laws.specs.Counting.{writes_told}
use Rattle.reader_laws.specs.Naming.{IsRoomNamed}
use Rattle.headline_laws.specs.Opening.{Stretch}

-- where the entries of a writer go, and how many of its writes were answered since it was opened
pub record OneWriter : Type 0 where
  pub dropping : Dropping
  pub count : ℕ

-- one write more was answered
abbrev pub one_more : OneWriter → OneWriter
one_more writer = record { dropping = writer.dropping; count = writer.count + 1 }

-- In this stretch the caller found or made the container of this name, and entered it as this writer, which has written nothing.
pub record OpensOneWriter (start : Moment) (caller : ℕ) (stretch : Stretch) (name : Name) (writer : OneWriter) : Type 0 where
  pub most : ℕ
  pub earlier : List Event
  pub making : Event
  pub between : List Event
  pub entering : Event
  pub later : List Event
  pub split : stretch.events ≡ earlier ++ (making ∷ between ++ entering ∷ later)
  pub makes : (making.caller ≡ caller) × (making.ask ≡ unbroken (MakeContainer name))
  pub made : making.reply ≡ Room writer.dropping.room
  pub named : IsRoomNamed (moment_after start (stretch.before ++ (earlier ++ making ∷ []))) name writer.dropping.room
  pub enters : (entering.caller ≡ caller) × (entering.ask ≡ unbroken (Enter writer.dropping.room writer.dropping.host most))
  pub entered : entering.reply ≡ Entered writer.dropping.writer
  pub none : writer.count ≡ 0

-- in these events the caller asked for one write of the writer, and it was answered with this stamp; no other was
pub record WritesOnce (caller : ℕ) (events : List Event) (writer : OneWriter) (at : ℕ) (bytes : List ℕ) (stamp : ℕ) : Type 0 where
  pub asks : Any (λ (e : Event). (e.caller ≡ caller) × (e.ask ≡ unbroken (Write writer.dropping.writer at bytes)) × (e.reply ≡ Wrote stamp)) events
  pub alone : writes_told writer.dropping.writer events ≡ 1

-- no write of the writer was answered, where one is open
abbrev pub WritesNone : Option OneWriter → List Event → Type 0
WritesNone None events = ⊤
WritesNone (Some writer) events = writes_told writer.dropping.writer events ≡ 0
