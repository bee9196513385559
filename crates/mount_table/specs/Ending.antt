-- The rows of a caller at its end.
use Rattle.std.specs.Prelude.{ℕ, zero, suc, List, [], ◌∷◌}
use Rattle.mount_model.specs.declared.row.Row.{Row}
use Rattle.mount_model.specs.Stopping.{row_ended}

-- the first so many rows are ended
abbrev pub ended_to : ℕ → ℕ → List Row → List Row
ended_to caller zero rows = rows
ended_to caller (suc n) [] = []
ended_to caller (suc n) (row ∷ rows) = row_ended caller row ∷ ended_to caller n rows
