-- A writer leaves: its metadata dropping is made, and its entry in the folder of who has the container open goes.
use Rattle.std.specs.Prelude.{ℕ, length, nat_lt, ◌==◌, ◌&&◌, ◌||◌, not, true, Option, Some, None, Ok, Err, if◌then◌else◌}
use Rattle.store_api.specs.declared.step.Answer.TheVariants.{Made, Old}
use Rattle.store_api.specs.declared.store.Trouble.TheVariants as trouble
use Rattle.store_api.specs.Step.{Step, create, remove}
use Rattle.mount_model.specs.declared.row.Row.{Row}
use Rattle.mount_model.specs.declared.row.Stage.TheVariants as stage
use Rattle.mount_model.specs.declared.reply.Reply.{Reply}
use Rattle.mount_model.specs.declared.reply.Reply.TheVariants.{Done, Fault, NoMemory}
use Rattle.mount_model.specs.declared.reply.Refusal.{Refusal}
use Rattle.mount_model.specs.declared.reply.Refusal.TheVariants.{NotFlushed, NoMeta}
use Rattle.mount_model.specs.Paths.{Name, metadata, meta_path, open_path}
use Rattle.container_layout.specs.Paths.{openhosts}
use Rattle.mount_model.specs.Table.{may_close, is_live, at_stage}
use Rattle.mount_model.specs.State.{State, Table, put, take_out}
use Rattle.mount_model.specs.Making.{Told, CallOutcome, says, otherwise, MakesAct, OnWriter, UnlessRefused}

-- entries wait, or what it wrote would be lost with the power
abbrev pub put_meta_check : Row → Option Refusal
put_meta_check row =
    if nat_lt 0 (length row.pending.entries) || not (row.log_mark == row.stored) || not (row.index_mark == row.landed) then Some NotFlushed else None

-- the name has the writer's greatest end, its bytes and its last stamp
abbrev pub meta_file : Row → Name
meta_file row = (meta_path row.end row.stored row.last row.host row.id).file

abbrev pub put_meta_step : Row → Step
put_meta_step row = create row.room metadata (meta_file row)

abbrev pub closing : Row → Row
closing row = at_stage stage.Closing row

-- the making of the writer's metadata dropping was answered
abbrev pub closed : Row → Row
closed row = record row { has_meta = true; stage = stage.Closing }

-- from then on it may only leave, whatever the act told
abbrev pub put_meta_outcome : Row → Table → Told → CallOutcome
put_meta_outcome row table (Ok Made) = says Done (put (closed row) table)
put_meta_outcome row table (Ok (Old room)) = says Done (put (closed row) table)
put_meta_outcome row table (Err trouble.NoMemory) = says NoMemory table
put_meta_outcome row table told = says (otherwise metadata (meta_file row) told) (put (closing row) table)

abbrev pub PutsMeta : ℕ → ℕ → State → Reply → State → Type 0
PutsMeta caller writer old reply new = OnWriter caller may_close writer old reply new (λ row.
    UnlessRefused (put_meta_check row) old reply new
    (MakesAct (put_meta_step row) (put_meta_outcome row old.table) old reply new))

-- a writer that has written leaves its metadata dropping
abbrev pub exit_check : Row → Option Refusal
exit_check row = if nat_lt 0 row.stored && not row.has_meta then Some NoMeta else None

abbrev pub exit_step : Row → Step
exit_step row = remove row.room openhosts (open_path row.host row.id).file

abbrev pub exit_outcome : Row → Table → Told → CallOutcome
exit_outcome row table (Ok Made) = says Done (take_out row.id table)
exit_outcome row table (Err trouble.Fault) = says Fault (put (at_stage stage.Dead row) table)
exit_outcome row table told = says (otherwise openhosts (open_path row.host row.id).file told) table

abbrev pub Exits : ℕ → ℕ → State → Reply → State → Type 0
Exits caller writer old reply new = OnWriter caller is_live writer old reply new (λ row.
    UnlessRefused (exit_check row) old reply new
    (MakesAct (exit_step row) (exit_outcome row old.table) old reply new))
