use Rattle.std.proofs.Common.{◌≡◌}
use Rattle.turn_object.specs.Pass.{front, parts_of, start_of}
use Rattle.drain_copy.specs.Machine.{drain_left, drain_standing}
use Rattle.drain_turn_tests.specs.Passing.{CanCall, MayDrainBy}
use Rattle.drain_turn_tests.proofs.asking.drain_by.Given as goal

abbrev pub invariant-loop : goal.invariant-loop
invariant-loop g l = CanCall l.turn l.pass × (parts_of l.pass ≡ parts_of l.fn.pass) × MayDrainBy (start_of l.turn) (front l.pass) (drain_standing l.drain)

abbrev pub decreases-loop : goal.decreases-loop
decreases-loop g l = drain_left l.drain
