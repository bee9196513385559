use Rattle.std.proofs.Common.{◌≡◌}
use Rattle.turn_object.specs.Pass.{parts_of}
use Rattle.drain_turn_tests.specs.Passing.{CanCall}
use Rattle.drain_turn_tests.proofs.beside.drain_often.Given as goal

abbrev pub invariant-loop-made : goal.invariant-loop-made
invariant-loop-made g l = CanCall l.turn l.pass × (parts_of l.pass ≡ parts_of l.initial.pass)
