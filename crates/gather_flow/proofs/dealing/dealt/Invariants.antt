use Rattle.std.proofs.Common.{◌≡◌, ◌++◌, drop}
use Rattle.gather_flow.specs.Dealing.{dealt_to}
use Rattle.gather_flow.proofs.dealing.dealt.Given as goal

abbrev pub invariant-loop-j : goal.invariant-loop-j
invariant-loop-j l = l.share ++ dealt_to l.workers l.worker l.j (drop l.j l.droppings) ≡ dealt_to l.workers l.worker 0 l.droppings
