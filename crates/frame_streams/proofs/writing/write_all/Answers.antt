use Rattle.std.proofs.Common.{arith}
use Rattle.frame_streams.proofs.Outputs.{taken_on}
use Rattle.frame_streams.proofs.writing.write_all.Goals as goal

pub loop-done-preserved : goal.loop-done-preserved
loop-done-preserved g c =
    record {
      within = grind (arith, c.in-Ok.ensures.within, c.loop-done-test.true);
      taken = taken_on c.loop-done.done c.in-Ok.count c.args.bytes.now _ _ _ c.loop-done.invariant.taken c.in-Ok.ensures.bytes;
      faults = omega (arith, c.loop-done.invariant.faults, c.in-Ok.ensures.faults);
      stalls = grind (arith, c.loop-done.invariant.stalls, c.in-Ok.ensures.unstalled);
    }
