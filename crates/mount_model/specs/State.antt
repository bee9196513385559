-- What contracts see of a mount.
use Rattle.std.specs.Prelude.{ℕ, ◌+◌, ◌*◌, ◌^◌, List, Option}
use Rattle.store_api.specs.Acts.{Stored}
use Rattle.mount_model.specs.declared.row.Row.{Row}
use Rattle.mount_model.specs.declared.row.Holder.{Holder}
use Rattle.mount_model.specs.declared.row.Flattening.{Flattening}
use Rattle.mount_model.specs.Table.{with_row, without_row}

-- the open writers, those who hold a room, and the flattenings
pub record Table : Type 0 where
  pub writers : List Row
  pub holders : List Holder
  pub flattenings : List Flattening

pub record State : Type 0 where
  -- the store now, and as it was when mounting began
  pub store : Stored
  pub opened : Stored
  -- the clock's times to come, where it tells them
  pub times : Option (List ℕ)
  -- the room of the mounts' marks, and this mount's mark
  pub marks : ℕ
  pub mount : ℕ
  -- the last serial that was drawn
  pub serial : ℕ
  pub table : Table

-- the id of a serial of this mount
abbrev pub id_of : ℕ → ℕ → ℕ
id_of mount serial = mount * 2 ^ 32 + serial

-- the last id that was drawn
abbrev pub last_id : State → ℕ
last_id state = id_of state.mount state.serial

-- the next serial is drawn
abbrev pub drawn : State → State
drawn state = record state { serial = state.serial + 1 }

-- the clock has these times to come
abbrev pub timed : Option (List ℕ) → State → State
timed times state = record state { times = times }

-- the table with this row in place of its writer's
abbrev pub put : Row → Table → Table
put row table = record table { writers = with_row row table.writers }

-- the table without this writer
abbrev pub take_out : ℕ → Table → Table
take_out id table = record table { writers = without_row id table.writers }
