-- A statement of an actor is one step of a plain machine.
use Rattle.std.specs.Prelude.{◌≡◌, ◌≢◌, ℕ, Option, Some, None, Result, Ok, Err, slice_get}
use Rattle.mount_model.specs.declared.stuck.Stuck.{Stuck}
use Rattle.reader_laws.specs.Moments.{Moment}
use Rattle.plain_machine.specs.Machine.{Plain, PlainActor, PlainOwn}
use Rattle.plain_machine.specs.Statements.{Takes}
use Rattle.plain_plays.specs.Mirrors.{Mirrors, MirrorsHandle}
use Rattle.script_lang.specs.declared.line.Outcome.{Outcome}
use Rattle.script_lang.specs.declared.script.ActorDecl.{ActorDecl}
use Rattle.script_lang.specs.declared.script.Statement.{Statement}
use Rattle.writer_flow.specs.declared.handle.WriterHandle.{WriterHandle}

-- The actor, which is declared so at this place, has a plain actor in the machine, and this handle.
pub record HasActor (m : Moment) (me : ℕ) (p : Plain) (handle : Option WriterHandle) (actor : PlainActor) : Type 0 where
  pub there : slice_get p.actors me ≡ Some actor
  pub its_own : MirrorsHandle m me p handle actor.writer

-- The machine takes the statement in one step, with this outcome. It has what the mount has then, the actor has what its handle says, and so have the others as
-- before.
pub record TakesStep (before : Moment) (me : ℕ) (declared : ActorDecl) (actor : PlainActor) (p : Plain) (statement : Statement) (outcome : Outcome) (after : Moment) (handle : Option WriterHandle) : Type 0 where
  pub new : Plain
  pub takes : Takes me declared actor p statement outcome new
  pub mirrors : Mirrors after new
  pub left : PlainActor
  pub its_actor : HasActor after me new handle left
  pub reader : left.reader ≡ actor.reader
  pub others : (other : ℕ) → other ≢ me → slice_get new.actors other ≡ slice_get p.actors other
  pub handles : (other : ℕ) (h : Option WriterHandle) (own : Option PlainOwn) → other ≢ me → MirrorsHandle before other p h own → MirrorsHandle after other new h own

-- what an actor has of an opening
abbrev pub handle_in : Result WriterHandle Stuck → Option WriterHandle
handle_in (Ok handle) = Some handle
handle_in (Err why) = None
