use Rattle.std.proofs.Common.{arith}
use Rattle.store_memory.proofs.Commons.{common_end}
use Rattle.store_memory.proofs.room.common.Goals as goal

pub returns : goal.returns
returns c = omega (arith, c.loop-i.invariant, common_end c.args.a.now c.args.b.now c.loop-i.i (omega (arith, c.min-most.ensures, c.loop-i-test.false)), c.min-most.ensures, c.loop-i.auto.i-end, c.loop-i-test.false)
