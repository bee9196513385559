-- A writer's pending entries go to its index dropping, and its droppings are synced.
use Rattle.std.specs.Prelude.{◌≡◌, ℕ, ◌+◌, ◌*◌, List, [], ◌∷◌, length, Ok}
use Rattle.plfs_types.specs.declared.limits.TheConstants.{ENTRY_SIZE}
use Rattle.plfs_types.specs.declared.entries.Entry.{Entry}
use Rattle.index_entry.specs.Spelling.{spelling_all}
use Rattle.container_layout.specs.Paths.{hostdir_of}
use Rattle.store_api.specs.declared.step.Answer.TheVariants.{Made}
use Rattle.store_api.specs.Step.{Step, write_at, sync}
use Rattle.mount_model.specs.declared.row.Row.{Row}
use Rattle.mount_model.specs.declared.row.Stage.TheVariants as stage
use Rattle.mount_model.specs.declared.reply.Reply.{Reply}
use Rattle.mount_model.specs.declared.reply.Reply.TheVariants.{Flushed, Synced, Done}
use Rattle.mount_model.specs.Paths.{index_path, log_path}
use Rattle.mount_model.specs.Table.{only}
use Rattle.mount_model.specs.State.{State, Table, put}
use Rattle.mount_model.specs.Making.{Told, CallOutcome, says, otherwise, MakesAct, OnWriter}

-- the writer once its pending entries have landed
abbrev pub flushed : Row → Row
flushed row = record row { landed = row.landed + length row.pending.entries; pending = record row.pending { entries = [] } }

-- they go behind the landed ones, so that a second try writes the same bytes at the same place
abbrev pub flush_step : Row → Step
flush_step row = write_at row.room (hostdir_of row.host) (index_path row.host row.id).file (ENTRY_SIZE * row.landed) (spelling_all row.pending.entries)

abbrev pub flush_outcome : Row → Table → Told → CallOutcome
flush_outcome row table (Ok Made) = says (Flushed (flushed row).landed) (put (flushed row) table)
flush_outcome row table told = says (otherwise (hostdir_of row.host) (index_path row.host row.id).file told) table

-- no act is made where nothing is pending
abbrev pub FlushesRow : Row → List Entry → State → Reply → State → Type 0
FlushesRow row [] old reply new = (reply ≡ Flushed row.landed) × (new ≡ old)
FlushesRow row (first ∷ rest) old reply new = MakesAct (flush_step row) (flush_outcome row old.table) old reply new

abbrev pub Flushes : ℕ → ℕ → State → Reply → State → Type 0
Flushes caller writer old reply new = OnWriter caller (only stage.Open) writer old reply new (λ row.
    FlushesRow row row.pending.entries old reply new)

abbrev pub sync_log_step : Row → Step
sync_log_step row = sync row.room (hostdir_of row.host) (log_path row.host row.id).file

-- the writer once all that it stored is kept
abbrev pub log_synced : Row → Row
log_synced row = record row { log_mark = row.stored }

abbrev pub sync_log_outcome : Row → Table → Told → CallOutcome
sync_log_outcome row table (Ok Made) = says Done (put (log_synced row) table)
sync_log_outcome row table told = says (otherwise (hostdir_of row.host) (log_path row.host row.id).file told) table

abbrev pub SyncsLog : ℕ → ℕ → State → Reply → State → Type 0
SyncsLog caller writer old reply new = OnWriter caller (only stage.Open) writer old reply new (λ row.
    MakesAct (sync_log_step row) (sync_log_outcome row old.table) old reply new)

abbrev pub sync_index_step : Row → Step
sync_index_step row = sync row.room (hostdir_of row.host) (index_path row.host row.id).file

-- the writer once all that landed is kept
abbrev pub index_synced : Row → Row
index_synced row = record row { index_mark = row.landed }

abbrev pub sync_index_outcome : Row → Table → Told → CallOutcome
sync_index_outcome row table (Ok Made) = says (Synced row.landed) (put (index_synced row) table)
sync_index_outcome row table told = says (otherwise (hostdir_of row.host) (index_path row.host row.id).file told) table

abbrev pub SyncsIndex : ℕ → ℕ → State → Reply → State → Type 0
SyncsIndex caller writer old reply new = OnWriter caller (only stage.Open) writer old reply new (λ row.
    MakesAct (sync_index_step row) (sync_index_outcome row old.table) old reply new)
