use Rattle.std.proofs.Common.{rules, ◌≡◌, Some, ap, ◌∙◌}
use Rattle.tree_check.proofs.DroppingLemmas.{read_as}
use Rattle.tree_check.proofs.droppings.take_kept.Goals as goal

pub returns-then-is_of-clause-some : goal.returns-then-is_of-clause-some
returns-then-is_of-clause-some c =
    let was : c.args.kept.now ≡ Some c.in-Some.read = search rules in
    let its = c.is_of.ensures.0 c.if-is_of.true in
    was ∙ ap Some (read_as c.in-Some.read c.args.host c.args.writer its.0 its.1)
