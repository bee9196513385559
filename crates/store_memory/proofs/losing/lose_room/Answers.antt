use Rattle.std.proofs.Common.{arith, length, ap, ◌∙◌}
use Rattle.store_memory.proofs.Lost.{room_next, room_within}
use Rattle.store_memory.proofs.losing.lose_room.Goals as goal
use Rattle.store_memory.proofs.losing.lose_room.Goals.{in-Some, in_default}

pub loop-place-preserved : goal.loop-place-preserved
loop-place-preserved c = elim c.match-get_mut.branch [
  | in-Some w ↦ w.room-is ∙ room_next c.args.keeps.now c.args.number c.args.room.now c.loop-place.room c.loop-place.place w.in-Some.file.now _ w.extra_for-extra.result c.loop-place.invariant w.in-Some.ensures.value w.extra_for-extra.ensures w.lose_file.ensures
  | in_default w ↦ let there = w.in_default.ensures.there.1 (room_within c.args.keeps.now c.args.number c.args.room.now c.loop-place.room c.loop-place.place c.loop-place.invariant (omega (arith, c.loop-place-test.true, ap length c.as_slice-place-end.ensures))) in absurd (cc)
]
