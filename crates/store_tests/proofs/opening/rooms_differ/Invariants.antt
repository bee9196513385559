use Rattle.store_tests.proofs.Apart.{AreFirst}
use Rattle.store_tests.proofs.opening.rooms_differ.Given as goal

abbrev pub invariant-loop-number : goal.invariant-loop-number
invariant-loop-number l = AreFirst l.tree l.number
