use Rattle.std.proofs.Common.{◌≡◌}
use Rattle.mount_table.specs.Ending.{ended_to}
use Rattle.mount_table.proofs.ending.end_rows.Given as goal

abbrev pub invariant-loop-row : goal.invariant-loop-row
invariant-loop-row l = l.row-items ≡ ended_to l.caller l.row-index l.fn.rows.items
