use Rattle.system_edge.proofs.Remembering.{no_letter, too_short}
use Rattle.system_edge.proofs.said.may_be_of_damage.Goals as goal

pub returns-then-behind-ge2 : goal.returns-then-behind-ge2
returns-then-behind-ge2 c other = no_letter c.args.line.now c.from_space-behind.result.now c.from_space-behind.ensures other

pub returns-else-behind-ge2 : goal.returns-else-behind-ge2
returns-else-behind-ge2 c _ = too_short c.args.line.now c.from_space-behind.result.now c.from_space-behind.ensures c.if-behind-ge2.false
