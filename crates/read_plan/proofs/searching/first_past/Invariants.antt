use Rattle.read_plan.specs.Brackets.{IsBracket}
use Rattle.read_plan.proofs.searching.first_past.Given as goal

abbrev pub invariant-rounds : goal.invariant-rounds
invariant-rounds l = IsBracket l.pieces l.at l.bracket
