-- An actor's reader beside the plain machine's, and a statement on it as one step.
use Rattle.std.specs.Prelude.{◌≡◌, ◌≢◌, ℕ, List, Option, Some, None, slice_get}
use Rattle.container_layout.specs.declared.items.Item.TheVariants.{Access}
use Rattle.mount_model.specs.History.{Event}
use Rattle.mount_sound.specs.Owed.{IsLawful}
use Rattle.reader_laws.specs.Gathering.{Gathered}
use Rattle.reader_laws.specs.Moments.{HadItem, IsSoundAt, Moment, moment_after}
use Rattle.reader_laws.specs.View.{writes_in}
use Rattle.index_reader.specs.declared.opened.OpenReader.{OpenReader}
use Rattle.reader_laws.specs.Opened.{HasOpenReader}
use Rattle.plain_machine.specs.Machine.{Plain, PlainActor, PlainOwn, PlainReader}
use Rattle.plain_machine.specs.Statements.{Takes}
use Rattle.plain_plays.specs.Mirrors.{Mirrors, MirrorsHandle}
use Rattle.plain_plays.specs.Stepping.{HasActor}
use Rattle.script_lang.specs.declared.line.Outcome.{Outcome}
use Rattle.script_lang.specs.declared.script.ActorDecl.{ActorDecl}
use Rattle.script_lang.specs.declared.script.Statement.{Statement}
use Rattle.script_lang.specs.declared.script.Statement.TheVariants.{Map, Rclose, Read, Refresh, Verify}
use Rattle.writer_flow.specs.declared.handle.WriterHandle.{WriterHandle}

-- The reader has the machine's file: it was opened or refreshed by this earlier moment, in a container, with a cut that has the file's writes, and with the
-- file's truncates.
pub record MirrorsReader (m : Moment) (reader : OpenReader) (file : PlainReader) : Type 0 where
  pub begin : Moment
  pub until : Moment
  pub sound : IsSoundAt until
  pub container : HadItem until reader.room Access
  pub cut : List Gathered
  pub has : HasOpenReader begin until reader cut
  pub room : reader.room ≡ file.room
  pub writes : writes_in until cut ≡ file.writes
  pub truncs : reader.truncs ≡ file.truncs
  -- what was called since
  pub since : List Event
  pub lawful : IsLawful until.state since
  pub now : m ≡ moment_after until since

-- the actor has a reader of the file that the machine gives it, or none of both
abbrev pub HasReader : Moment → Option OpenReader → Option PlainReader → Type 0
HasReader m None None = Unit {0}
HasReader m (Some reader) (Some file) = MirrorsReader m reader file
HasReader m _ _ = ⊥

-- The machine takes the statement in one step, with this outcome. It has what the mount has then, and the actor has what its reader says. Its handle, and those
-- of others, are as before.
pub record TakesOnReader (before : Moment) (me : ℕ) (declared : ActorDecl) (actor : PlainActor) (p : Plain) (statement : Statement) (outcome : Outcome) (after : Moment) (handle : Option WriterHandle) (reader : Option OpenReader) : Type 0 where
  pub new : Plain
  pub takes : Takes me declared actor p statement outcome new
  pub mirrors : Mirrors after new
  pub left : PlainActor
  pub its_actor : HasActor after me new handle left
  pub its_reader : HasReader after reader left.reader
  pub others : (other : ℕ) → other ≢ me → slice_get new.actors other ≡ slice_get p.actors other
  pub handles : (other : ℕ) (h : Option WriterHandle) (own : Option PlainOwn) → other ≢ me → MirrorsHandle before other p h own → MirrorsHandle after other new h own

-- the statements that are refused to an actor without a reader
abbrev pub IsUse : Statement → Type 0
IsUse (Read at len) = Unit {0}
IsUse (Verify at content) = Unit {0}
IsUse Map = Unit {0}
IsUse Refresh = Unit {0}
IsUse Rclose = Unit {0}
IsUse other = ⊥
