use Rattle.std.proofs.Common.{arith}
use Rattle.pack_input.proofs.Worths.{all_bytes, one_more_byte}
use Rattle.pack_input.proofs.content.put_bytes.Goals as goal

pub loop-place-preserved : goal.loop-place-preserved
loop-place-preserved c =
    rw c.joined.ensures
    (one_more_byte c.args.halves.now c.loop-place.bytes c.loop-place.place (omega arith) (omega arith) c.loop-place.invariant)

pub returns : goal.returns
returns c = all_bytes c.args.halves.now c.loop-place.bytes c.loop-place.place (omega arith) (omega arith) c.loop-place.invariant
