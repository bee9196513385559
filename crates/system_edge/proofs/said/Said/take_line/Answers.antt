use Rattle.std.proofs.Common.{rules}
use Rattle.system_edge.proofs.Remembering.{no_items, whole_line}
use Rattle.system_edge.proofs.said.Said.take_line.Goals as goal

pub returns-then-not-may_be_of_damage-clause-heard : goal.returns-then-not-may_be_of_damage-clause-heard
returns-then-not-may_be_of_damage-clause-heard c not _ =
    whole_line c.args.self.now.line.items c.args.line.now c.args.self.now.is_of_damage (no_items c.args.self.now.line.items (search rules)) not (c.may_be_of_damage.ensures c.if-not-may_be_of_damage.true)
