use Rattle.std.proofs.Common.{◌≡◌, ◌+◌, length}
use Rattle.turn_object.specs.Pass.{mine_of, parts_of, IsPassOf}
use Rattle.base_tests.proofs.turns.call_often.Given as goal

abbrev pub invariant-loop-made : goal.invariant-loop-made
invariant-loop-made g l =
    IsPassOf l.turn l.pass × (parts_of l.pass ≡ parts_of l.initial.pass) × (length (mine_of l.pass) ≡ length (mine_of l.initial.pass) + l.made)
