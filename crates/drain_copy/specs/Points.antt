-- Where a drain stands in its program.
use Rattle.std.specs.Prelude.{ℕ}
use Rattle.drain_copy.specs.declared.points.Point.{Point}
use Rattle.drain_copy.specs.declared.points.Point.TheVariants.{Next, Called, Acted}
use Rattle.drain_copy.specs.Bounds.{source_left, target_left, turn_left}
use Rattle.drain_copy.specs.Stages.{source_rest, target_rest, turn_program, IsOwedTurn}
use Rattle.drain_copy.specs.Standing.{Standing, ready, awaits_answer, awaits_reply}

abbrev pub point_standing : Point → Standing
point_standing (Next turn) = ready (turn_program turn)
point_standing (Called stage) = awaits_reply (source_rest stage)
point_standing (Acted stage) = awaits_answer (target_rest stage)

-- a bound on the questions that are left
abbrev pub point_left : Point → ℕ
point_left (Next turn) = turn_left turn
point_left (Called stage) = source_left stage
point_left (Acted stage) = target_left stage

-- the caller may make the call that is to be given
abbrev pub IsOwedPoint : Point → Type 0
IsOwedPoint (Next turn) = IsOwedTurn turn
IsOwedPoint (Called stage) = Unit {0}
IsOwedPoint (Acted stage) = Unit {0}
