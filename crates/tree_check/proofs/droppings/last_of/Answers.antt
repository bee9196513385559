use Rattle.std.proofs.Common.{sym}
use Rattle.tree_check.proofs.DroppingLemmas.{last_is}
use Rattle.tree_check.proofs.droppings.last_of.Goals as goal

pub returns-in-Some : goal.returns-in-Some
returns-in-Some c = last_is 0 c.args.entries.now c.in-Some.last.now (sym c.in-Some.ensures.value)
