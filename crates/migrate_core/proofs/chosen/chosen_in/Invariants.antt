use Rattle.std.proofs.Common.{◌≡◌, [], drop, None}
use Rattle.migrate_core.specs.Chosen.{chosen_behind}
use Rattle.migrate_core.proofs.chosen.chosen_in.Given as goal

abbrev pub invariant-loop-meta : goal.invariant-loop-meta
invariant-loop-meta l = chosen_behind l.droppings l.last (drop l.meta-index l.metas) l.list.items ≡ chosen_behind l.droppings None l.metas []
