use Rattle.std.proofs.Common.{[], ◌∷◌, ◌++◌, length, ap, arith}
use Rattle.std.specs.List.{flat_map}
use Rattle.std.proofs.lemmas.List.{length-append}
use Rattle.container_layout.specs.Numbers.{behind_dot}
use Rattle.container_layout.proofs.Short.{one_more, room_for_more}
use Rattle.container_layout.proofs.text.Text.push_behind_dots.Goals as goal

pub push-requires : goal.push-requires
push-requires c =
    let whole = c.args.self.now ++ flat_map behind_dot c.args.numbers.now in
    omega (
      arith,
      room_for_more c.loop-number.self c.args.numbers.now c.loop-number.number-index whole c.loop-number-test.true c.loop-number.invariant,
      length-append c.args.self.now (flat_map behind_dot c.args.numbers.now),
      c.requires,
    )

pub push_number-requires : goal.push_number-requires
push_number-requires c =
    let whole = c.args.self.now ++ flat_map behind_dot c.args.numbers.now in
    omega (
      arith,
      room_for_more c.loop-number.self c.args.numbers.now c.loop-number.number-index whole c.loop-number-test.true c.loop-number.invariant,
      length-append c.args.self.now (flat_map behind_dot c.args.numbers.now),
      c.requires,
      ap length c.push.ensures,
      length-append c.loop-number.self (46 ∷ []),
    )

pub loop-number-preserved : goal.loop-number-preserved
loop-number-preserved c =
    let whole = c.args.self.now ++ flat_map behind_dot c.args.numbers.now in
    rw (c.push_number.ensures, c.push.ensures)
    (one_more c.loop-number.self c.args.numbers.now c.loop-number.number-index whole c.loop-number-test.true c.loop-number.invariant)
