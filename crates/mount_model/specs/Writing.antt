-- A writer's bytes go to its log, and their entry to its buffer.
use Rattle.std.specs.Prelude.{ℕ, ◌+◌, ◌^◌, ◌≤◌, ◌<◌, List, [], ◌∷◌, ◌++◌, length, max, ◌||◌, nat_le, nat_lt, Option, Some, None, Ok, if◌then◌else◌}
use Rattle.plfs_types.specs.declared.limits.TheConstants.{MAX_LOG, MAX_SIZE, MAX_STAMP}
use Rattle.plfs_types.specs.declared.entries.Entry.{Entry}
use Rattle.plfs_types.specs.Stamps.{next_stamp}
use Rattle.container_layout.specs.Paths.{hostdir_of}
use Rattle.edge_io.specs.Clock.{Ticks}
use Rattle.store_api.specs.declared.step.Answer.TheVariants.{Made}
use Rattle.store_api.specs.Step.{Step, write_at}
use Rattle.mount_model.specs.declared.row.Row.{Row}
use Rattle.mount_model.specs.declared.row.Stage.TheVariants as stage
use Rattle.mount_model.specs.declared.reply.Reply.{Reply}
use Rattle.mount_model.specs.declared.reply.Reply.TheVariants.{Wrote}
use Rattle.mount_model.specs.declared.reply.Refusal.{Refusal}
use Rattle.mount_model.specs.declared.reply.Refusal.TheVariants.{TooFar, StampsSpent, Full}
use Rattle.mount_model.specs.Paths.{log_path}
use Rattle.mount_model.specs.Table.{only}
use Rattle.mount_model.specs.State.{State, Table, timed, put}
use Rattle.mount_model.specs.Making.{Told, CallOutcome, says, otherwise, MakesAct, OnWriter, UnlessRefused}

-- why the writer may not write so many bytes from this place on
abbrev pub write_check : Row → ℕ → ℕ → Option Refusal
write_check row at len =
    if nat_lt MAX_SIZE (at + len) || nat_lt MAX_LOG (row.stored + len) then Some TooFar
    else if nat_le MAX_STAMP row.last || nat_le MAX_STAMP row.floor then Some StampsSpent
    else if nat_le row.pending.capacity (length row.pending.entries) then Some Full
    else None

-- the writer's stamp at this time
abbrev pub stamp_at : ℕ → Row → ℕ
stamp_at time row = next_stamp time row.last row.floor

-- the entry of so many bytes from this place on, the next ones in the writer's log
abbrev pub entry_of : ℕ → Row → ℕ → ℕ → Entry
entry_of stamp row at len = record { at = at; len = len; physical = row.stored; stamp = stamp; writer = row.id }

-- the writer with one more write
abbrev pub wrote : ℕ → Row → ℕ → ℕ → Row
wrote stamp row at len = record row {
  last = stamp;
  stored = row.stored + len;
  end = max row.end (at + len);
  pending = record row.pending { entries = row.pending.entries ++ entry_of stamp row at len ∷ [] };
}

abbrev pub write_step : Row → List ℕ → Step
write_step row bytes = write_at row.room (hostdir_of row.host) (log_path row.host row.id).file row.stored bytes

abbrev pub write_outcome : ℕ → Row → ℕ → ℕ → Table → Told → CallOutcome
write_outcome stamp row at len table (Ok Made) = says (Wrote stamp) (put (wrote stamp row at len) table)
write_outcome stamp row at len table told = says (otherwise (hostdir_of row.host) (log_path row.host row.id).file told) table

-- The clock is asked, and then the act is made.
pub record WritesAt (row : Row) (at : ℕ) (bytes : List ℕ) (old : State) (reply : Reply) (new : State) : Type 0 where
  pub some : 1 ≤ length bytes
  pub time : ℕ
  pub times : Option (List ℕ)
  pub in_range : time < 2 ^ 64
  pub ticks : Ticks old.times times time
  pub makes : MakesAct (write_step row bytes) (write_outcome (stamp_at time row) row at (length bytes) old.table) (timed times old) reply new

abbrev pub Writes : ℕ → ℕ → ℕ → List ℕ → State → Reply → State → Type 0
Writes caller writer at bytes old reply new = OnWriter caller (only stage.Open) writer old reply new (λ row.
    UnlessRefused (write_check row at (length bytes)) old reply new (WritesAt row at bytes old reply new))
