-- A writer enters a container.
use Rattle.std.specs.Prelude.{ℕ, ◌+◌, ◌-◌, ◌^◌, ◌<◌, [], ◌∷◌, ◌++◌, nat_le, false, Option, Some, None, Ok, if◌then◌else◌}
use Rattle.store_api.specs.declared.step.Answer.TheVariants.{Made, NoFolder}
use Rattle.store_api.specs.Step.{Step, create}
use Rattle.mount_model.specs.declared.row.Row.{Row}
use Rattle.mount_model.specs.declared.row.Stage.TheVariants as stage
use Rattle.mount_model.specs.declared.reply.Reply.{Reply}
use Rattle.mount_model.specs.declared.reply.Reply.TheVariants.{Entered, Refused}
use Rattle.mount_model.specs.declared.reply.Refusal.{Refusal}
use Rattle.mount_model.specs.declared.reply.Refusal.TheVariants.{Held, IdsSpent}
use Rattle.mount_model.specs.Paths.{open_path}
use Rattle.container_layout.specs.Paths.{openhosts}
use Rattle.mount_model.specs.State.{State, Table, id_of, drawn}
use Rattle.mount_model.specs.Making.{Told, CallOutcome, says, otherwise, MakesAct, room_check, or_reason, UnlessRefused}

-- each serial is drawn once
abbrev pub serial_check : State → Option Refusal
serial_check old = if nat_le (2 ^ 32 - 1) old.serial then Some IdsSpent else None

-- why no serial is drawn for a call on this room
abbrev pub draw_check : State → ℕ → Option Refusal
draw_check old room = or_reason (room_check old room) (serial_check old)

-- the id of the next serial
abbrev pub next_id : State → ℕ
next_id old = id_of old.mount (old.serial + 1)

-- a writer that has done nothing yet
abbrev pub entered : State → ℕ → ℕ → ℕ → ℕ → Row
entered old caller room host cap = record {
  id = next_id old;
  room = room;
  host = host;
  owner = caller;
  floor = 0;
  last = 0;
  stored = 0;
  end = 0;
  landed = 0;
  log_mark = 0;
  index_mark = 0;
  pending = record { entries = []; capacity = cap };
  has_meta = false;
  stage = stage.Entered;
}

abbrev pub enter_step : State → ℕ → ℕ → Step
enter_step old room host = create room openhosts (open_path host (next_id old)).file

abbrev pub enter_outcome : Row → Table → Told → CallOutcome
enter_outcome row table (Ok Made) = says (Entered row.id) (record table { writers = table.writers ++ row ∷ [] })
enter_outcome row table (Ok NoFolder) = says (Refused Held) table
enter_outcome row table told = says (otherwise openhosts (open_path row.host row.id).file told) table

-- Where it isn't refused, the next serial is drawn, whatever the act tells.
pub record EntersAs (caller room host cap : ℕ) (old : State) (reply : Reply) (new : State) : Type 0 where
  pub host_fits : host < 2 ^ 32
  pub makes : MakesAct (enter_step old room host) (enter_outcome (entered old caller room host cap) old.table) (drawn old) reply new

abbrev pub Enters : ℕ → ℕ → ℕ → ℕ → State → Reply → State → Type 0
Enters caller room host cap old reply new = UnlessRefused (draw_check old room) old reply new
    (EntersAs caller room host cap old reply new)
