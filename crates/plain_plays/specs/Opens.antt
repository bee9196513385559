-- How an opening ends where nothing fails: with a writer, or refused for one of two reasons.
use Rattle.std.specs.Prelude.{◌≡◌, ◌≤◌, ◌-◌, ◌^◌, ℕ, List, Result, Ok, Err}
use Rattle.store_laws.specs.There.{LacksFolder}
use Rattle.mount_model.specs.declared.call.Call.TheVariants.{MakeContainer}
use Rattle.mount_model.specs.declared.reply.Refusal.TheVariants.{Held, IdsSpent}
use Rattle.mount_model.specs.declared.reply.Reply.TheVariants.{Room}
use Rattle.mount_model.specs.History.{Event}
use Rattle.mount_model.specs.Paths.{Name}
use Rattle.container_layout.specs.Paths.{openhosts}
use Rattle.mount_model.specs.declared.stuck.Stuck.{Stuck}
use Rattle.mount_model.specs.declared.stuck.Stuck.TheVariants as stuck
use Rattle.reader_laws.specs.Moments.{Moment, moment_after}
use Rattle.plain_plays.specs.Calls.{AtSome, HasCalled}
use Rattle.plain_plays.specs.Plainly.{MirrorsOwn, new_writer}
use Rattle.refusal_laws.specs.Reasons.{Shows}
use Rattle.writer_flow.specs.declared.handle.WriterHandle.{WriterHandle}
use Rattle.writer_flow.specs.Handle.{opened_of}

-- no serial is left
abbrev pub IsSpent : Moment → Type 0
IsSpent moment = 2 ^ 32 - 1 ≤ moment.state.serial

-- nobody can open this room
abbrev pub WasShut : ℕ → Moment → Type 0
WasShut room moment = Shows moment.state (λ tree. LacksFolder tree room openhosts)

-- The writer is open in the container that was found or made under this name, and is a new one of a plain machine. Or no serial was left, or the container let
-- nobody in.
pub data OpensOrNot (start : Moment) (caller : ℕ) (name : Name) (host capacity : ℕ) (events : List Event) (result : Result WriterHandle Stuck) : Type 0 where
  opened : (writer room floor : ℕ) → result ≡ Ok (opened_of writer capacity) → HasCalled caller (MakeContainer name) (Room room) events → MirrorsOwn caller room (opened_of writer capacity) (new_writer writer host capacity floor) (moment_after start events) → OpensOrNot start caller name host capacity events result
  spent : result ≡ Err (stuck.Refused IdsSpent) → AtSome start events IsSpent → OpensOrNot start caller name host capacity events result
  shut : result ≡ Err (stuck.Refused Held) → (room : ℕ) → HasCalled caller (MakeContainer name) (Room room) events → AtSome start events (WasShut room) → OpensOrNot start caller name host capacity events result
