-- A call that is broken off within its act.
use Rattle.std.specs.Prelude.{◌≡◌, ◌^◌, ◌≤◌, ◌<◌, ℕ, List, length, map, filter, take, not, ◌==◌, Option, Some, None, Ok, Err, option_and_then, if◌then◌else◌}
use Rattle.plfs_types.specs.Names.{IsLogicalName}
use Rattle.edge_io.specs.Clock.{Ticks}
use Rattle.store_api.specs.declared.step.Answer.TheVariants.{Made}
use Rattle.store_api.specs.declared.store.Trouble.TheVariants as trouble
use Rattle.store_api.specs.Step.{Step, write_at}
use Rattle.store_api.specs.Acts.{Stored, Acts}
use Rattle.mount_model.specs.declared.call.Call.{Call}
use Rattle.mount_model.specs.declared.call.Call.TheVariants.{Find, MakeContainer, Enter, Write, Hold, Mark, Move, StartFlat, StartPack, SyncDropping, Mend, MendMeta, Bury}
use Rattle.mount_model.specs.declared.reply.Reply.{Reply}
use Rattle.mount_model.specs.declared.reply.Reply.TheVariants.{Stopped, NoMemory}
use Rattle.mount_model.specs.declared.reply.Refusal.{Refusal}
use Rattle.mount_model.specs.declared.row.Row.{Row}
use Rattle.mount_model.specs.declared.row.Holder.{Holder}
use Rattle.mount_model.specs.declared.row.Flattening.{Flattening}
use Rattle.mount_model.specs.declared.row.Stage.TheVariants as stage
use Rattle.mount_model.specs.Table.{at_stage}
use Rattle.mount_model.specs.State.{State, Table, drawn}
use Rattle.mount_model.specs.Entering.{draw_check}
use Rattle.mount_model.specs.Recovering.{IsHostAndWriter}
use Rattle.mount_model.specs.Making.{Told}
use Rattle.mount_model.specs.Acting.{act_of}

-- what is made of an act after so many bytes: these of a write; of another step nothing at 0, and else all
abbrev pub part_of : ℕ → Step → Option Step
part_of k (write_at room folder file at bytes) = Some (write_at room folder file at (take k bytes))
part_of k step = if k == 0 then None else Some step

-- what is made of the call's act at this time, if any
abbrev pub part_made : ℕ → ℕ → State → ℕ → Call → Option Step
part_made k time old caller call = option_and_then (part_of k) (act_of time old caller call)

-- the row is dead where it is the caller's
abbrev pub row_ended : ℕ → Row → Row
row_ended caller row = if row.owner == caller then at_stage stage.Dead row else row

-- the caller's writers are dead, and its holders and flattenings are gone
abbrev pub without_caller : ℕ → Table → Table
without_caller caller table = record {
  writers = map (row_ended caller) table.writers;
  holders = filter (λ (h : Holder). not (h.owner == caller)) table.holders;
  flattenings = filter (λ (f : Flattening). not (f.owner == caller)) table.flattenings;
}

-- the next serial is drawn where nothing is against it
abbrev pub drawn_unless : Option Refusal → State → State
drawn_unless None old = drawn old
drawn_unless (Some why) old = old

-- the state in which the act is made
abbrev pub begun : State → Call → State
begun old (Enter room host cap) = drawn_unless (draw_check old room) old
begun old (Hold room) = drawn_unless (draw_check old room) old
begun old (StartFlat room) = drawn_unless (draw_check old room) old
begun old (StartPack room host writer) = drawn_unless (draw_check old room) old
begun old call = old

-- the part is made, if any
abbrev pub MakesPart : Option Step → Stored → Stored → Told → Type 0
MakesPart None old new told = (told ≡ Ok Made) × (new ≡ old)
MakesPart (Some step) old new told = Acts step old new told

-- want of memory leaves the caller as it was; all else ends it
abbrev pub IsEndedBy : Told → Reply → State → ℕ → State → Type 0
IsEndedBy (Err trouble.NoMemory) reply at caller new = (reply ≡ NoMemory) × (new ≡ at)
IsEndedBy told reply at caller new = (reply ≡ Stopped) × (new ≡ record at { table = without_caller caller at.table })

-- what the types of a call's parts say of it
abbrev pub IsWellTyped : Call → Type 0
IsWellTyped (Find name) = IsLogicalName name
IsWellTyped (MakeContainer name) = IsLogicalName name
IsWellTyped (Enter room host cap) = host < 2 ^ 32
IsWellTyped (Write writer at block) = 1 ≤ length block
IsWellTyped (Move holder to) = IsLogicalName to
IsWellTyped (StartPack room host writer) = IsHostAndWriter host writer
IsWellTyped (SyncDropping room host writer is_log) = IsHostAndWriter host writer
IsWellTyped (Mend room host writer count) = IsHostAndWriter host writer
IsWellTyped (MendMeta room host cover last) = IsHostAndWriter host cover.writer
IsWellTyped (Bury room host writer) = IsHostAndWriter host writer
IsWellTyped call = Unit {0}

-- the clock is asked where a truncate's dropping is made, and nowhere else
abbrev pub TicksFor : Call → Option Step → Option (List ℕ) → Option (List ℕ) → ℕ → Type 0
TicksFor (Mark holder size top) (Some step) times left time = (time < 2 ^ 64) × Ticks times left time
TicksFor call part times left time = left ≡ times

-- The first k bytes of the call's act are made, and then its caller is at its end.
pub record Stops (caller k : ℕ) (call : Call) (old : State) (reply : Reply) (new : State) : Type 0 where
  pub typed : IsWellTyped call
  pub time : ℕ
  pub times : Option (List ℕ)
  pub told : Told
  pub store : Stored
  pub ticks : TicksFor call (part_made k time old caller call) old.times times time
  pub made : MakesPart (part_made k time old caller call) old.store store told
  pub after : IsEndedBy told reply (record (begun old call) { store = store; times = times }) caller new
