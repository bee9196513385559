-- The row that stands at a place of the table.
use Rattle.std.specs.Prelude.{ℕ, slice_get, IfSome}
use Rattle.mount_model.specs.declared.row.Row.{Row}
use Rattle.mount_model.specs.State.{Table}

-- what holds of that row
abbrev pub AtPlace : Table → ℕ → (Row → Type 0) → Type 0
AtPlace table place holds = IfSome (slice_get table.writers place) holds
