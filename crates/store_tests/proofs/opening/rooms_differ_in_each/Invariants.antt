use Rattle.store_tests.proofs.Apart.{AreApart}
use Rattle.store_tests.proofs.opening.rooms_differ_in_each.Given as goal

abbrev pub invariant-loop-number : goal.invariant-loop-number
invariant-loop-number l = AreApart l.stores l.number
