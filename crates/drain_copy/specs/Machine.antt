-- Where the machine of a drain stands in its program.
use Rattle.std.specs.Prelude.{ℕ}
use Rattle.drain_copy.specs.declared.drain.Drain.{Drain}
use Rattle.drain_copy.specs.Points.{point_left, point_standing}
use Rattle.drain_copy.specs.Standing.{Standing}

unfoldable pub drain_standing : Drain → Standing
drain_standing d = point_standing d.point

-- a bound on the questions that are left
unfoldable pub drain_left : Drain → ℕ
drain_left d = point_left d.point
