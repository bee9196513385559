-- A writer of the mount that is one of a plain machine, and what machines leave of it.
use Rattle.std.specs.Prelude.{◌≡◌, ◌+◌, ℕ, ◌||◌, nat_le, nat_lt, false, List, length, Option, Some, None, Result, Ok, Err, MatchOption, if◌then◌else◌, true, []}
use Rattle.plfs_types.specs.declared.limits.TheConstants.{MAX_LOG, MAX_SIZE, MAX_STAMP}
use Rattle.plfs_types.specs.Stamps.{next_stamp}
use Rattle.edge_io.specs.Clock.{Ticks}
use Rattle.mount_model.specs.declared.call.Call.TheVariants.{Exit, PutMeta}
use Rattle.mount_model.specs.declared.reply.Refusal.{Refusal}
use Rattle.mount_model.specs.declared.reply.Refusal.TheVariants.{StampsSpent, TooFar}
use Rattle.mount_model.specs.declared.reply.Reply.TheVariants.{Done}
use Rattle.mount_model.specs.declared.row.Row.{Row}
use Rattle.mount_model.specs.History.{Event}
use Rattle.mount_sound.specs.Entries.{logged}
use Rattle.mount_sound.specs.Ledger.{entries_in}
use Rattle.reader_laws.specs.Moments.{Dropping, IsSoundAt, Moment, issued_by, landed, moment_after}
use Rattle.mount_model.specs.declared.stuck.Stuck.{Stuck}
use Rattle.mount_model.specs.declared.stuck.Stuck.TheVariants as stuck
use Rattle.writer_flow.specs.declared.handle.WriterHandle.{WriterHandle}
use Rattle.writer_flow.specs.declared.handle.WriterOut.{WriterOut}
use Rattle.writer_flow.specs.Ending.{gone_with, stays_with}
use Rattle.plain_machine.specs.Machine.{PlainWriter}
use Rattle.plain_machine.specs.Becoming.{all_landed, made_room}
use Rattle.plain_machine.specs.Landed.{last_of}
use Rattle.plain_machine.specs.Writers.{issue, one_more}
use Rattle.plain_plays.specs.Calls.{AtSome, HasCalled}
use Rattle.mount_model.specs.History.{AreBy}
use Rattle.plain_plays.specs.Served.{HasOpen}

-- where the plain writer's index lies
abbrev pub dropping_of : ℕ → PlainWriter → Dropping
dropping_of number w = record { room = number; host = w.host; writer = w.id }

-- The caller's open writer is this one of a plain machine, in the container of this number. It issued the same writes, and as many have landed, by the tree and
-- by the table. Its handle tells of its buffer.
pub record MirrorsOwn (me number : ℕ) (handle : WriterHandle) (w : PlainWriter) (m : Moment) : Type 0 where
  pub sound : IsSoundAt m
  pub row : Row
  pub opened : HasOpen me w.id row m.state
  pub room : row.room ≡ number
  pub host : row.host ≡ w.host
  pub floor : row.floor ≡ w.floor
  pub capacity : row.pending.capacity ≡ w.capacity
  pub counted : row.landed ≡ w.landed
  pub issued : issued_by m (dropping_of number w) ≡ w.issued
  pub landed_is : landed m (dropping_of number w) ≡ w.landed
  pub writer : handle.writer ≡ w.id
  pub pending : handle.pending ≡ length row.pending.entries
  pub cap_is : handle.cap ≡ w.capacity
  pub fresh : handle.closing ≡ false

-- a machine on it ended with this result, and the writer is this one then
pub record KeepsPlain (me number : ℕ) (w : PlainWriter) (m : Moment) (result : Result ℕ Stuck) (out : WriterOut) : Type 0 where
  pub handle : WriterHandle
  pub is : out ≡ stays_with handle result
  pub mirrors : MirrorsOwn me number handle w m

-- why the plain machine refuses a write of so many bytes at this place
abbrev pub plain_reason : PlainWriter → ℕ → ℕ → Option Refusal
plain_reason w at len =
    if nat_lt MAX_SIZE (at + len) || nat_lt MAX_LOG (logged (entries_in w.issued) + len) then Some TooFar
    else if nat_le MAX_STAMP (last_of w.issued) || nat_le MAX_STAMP w.floor then Some StampsSpent
    else None

-- The write was made at a moment when the clock gave this time. Where nobody else calls, the clock was asked that once.
pub record WritesOne (start : Moment) (me number : ℕ) (w : PlainWriter) (at : ℕ) (block : List ℕ) (events : List Event) (out : WriterOut) : Type 0 where
  pub time : ℕ
  pub times : Option (List ℕ)
  pub made : AtSome start events (λ x. Ticks x.state.times times time)
  pub left : AreBy me events → Ticks start.state.times times time × ((moment_after start events).state.times ≡ times)
  pub keeps : KeepsPlain me number (one_more (issue w at block (next_stamp time (last_of w.issued) w.floor)) w) (moment_after start events) (Ok (next_stamp time (last_of w.issued) w.floor)) out

-- The write was refused for this, and the writer is as it was. Where nobody else calls, the clock wasn't asked.
pub record RefusesOne (start : Moment) (me number : ℕ) (w : PlainWriter) (why : Refusal) (events : List Event) (out : WriterOut) : Type 0 where
  pub keeps : KeepsPlain me number w (moment_after start events) (Err (stuck.Refused why)) out
  pub left : AreBy me events → (moment_after start events).state.times ≡ start.state.times

-- its buffer has room: the write is made, or refused for its reason
abbrev pub WritesInto : Moment → ℕ → ℕ → PlainWriter → ℕ → List ℕ → List Event → WriterOut → Type 0
WritesInto start me number w at block events out = MatchOption (plain_reason w at (length block))
    (WritesOne start me number w at block events out)
    (λ why. RefusesOne start me number w why events out)

-- as the plain machine writes
abbrev pub WritesPlainly : Moment → ℕ → ℕ → PlainWriter → ℕ → List ℕ → List Event → WriterOut → Type 0
WritesPlainly start me number w at block events out = WritesInto start me number (made_room w) at block events out

-- as it syncs
abbrev pub SyncsPlainly : Moment → ℕ → ℕ → PlainWriter → List Event → WriterOut → Type 0
SyncsPlainly start me number w events out = KeepsPlain me number (all_landed w) (moment_after start events) (Ok (length w.issued)) out

-- as it closes: the line has the number of its writes, the metadata dropping was made, and the writer left the open ones
pub record ClosesPlainly (me : ℕ) (w : PlainWriter) (events : List Event) (out : WriterOut) : Type 0 where
  pub is : out ≡ gone_with (Ok (length w.issued))
  pub told_of : HasCalled me (PutMeta w.id) Done events
  pub left : HasCalled me (Exit w.id) Done events

-- a writer of a plain machine that was opened now, above the stamp of this floor
abbrev pub new_writer : ℕ → ℕ → ℕ → ℕ → PlainWriter
new_writer id host capacity floor = record { id = id; host = host; capacity = capacity; floor = floor; is_open = true; is_owned = true; issued = []; landed = 0 }
