use Rattle.std.proofs.Common.{arith}
use Rattle.pack_input.proofs.Worths.{all_halves, one_more_half}
use Rattle.pack_input.proofs.content.put_worths.Goals as goal

pub loop-place-preserved : goal.loop-place-preserved
loop-place-preserved c =
    rw c.worth.ensures.value
    (one_more_half c.args.digits.now c.loop-place.halves c.loop-place.place (omega arith) (omega arith) c.loop-place.invariant)

pub returns : goal.returns
returns c = all_halves c.args.digits.now c.loop-place.halves c.loop-place.place (omega arith) (omega arith) c.loop-place.invariant
