use Rattle.std.proofs.Common.{arith, length, ap, ◌∙◌}
use Rattle.store_memory.proofs.AllKept.{tree_next, tree_within}
use Rattle.store_memory.proofs.keeping.keep_all.Goals as goal
use Rattle.store_memory.proofs.keeping.keep_all.Goals.{in-Some, in_default}

pub loop-number-preserved : goal.loop-number-preserved
loop-number-preserved c = elim c.match-get_mut.branch [
  | in-Some w ↦ w.tree-is ∙ tree_next c.args.tree.now c.loop-number.tree c.loop-number.number w.in-Some.room.now _ c.loop-number.invariant w.in-Some.ensures.value w.keep_room.ensures
  | in_default w ↦ let there = w.in_default.ensures.there.1 (tree_within c.args.tree.now c.loop-number.tree c.loop-number.number c.loop-number.invariant (omega (arith, c.loop-number-test.true, ap length c.as_slice-number-end.ensures))) in absurd (cc)
]
