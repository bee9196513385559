use Rattle.std.proofs.Common.{arith}
use Rattle.program_ends.proofs.OutputLemmas.{taken_on}
use Rattle.program_ends.proofs.output.write_out.Goals as goal

pub loop-done-preserved : goal.loop-done-preserved
loop-done-preserved g c =
    record {
      within = grind (arith, c.in-Ok.ensures.within, c.loop-done-test.true);
      bytes = taken_on c.loop-done.done c.in-Ok.count c.args.text.now _ _ _ c.loop-done.invariant.bytes c.in-Ok.ensures.bytes;
      faults = omega (arith, c.loop-done.invariant.faults, c.in-Ok.ensures.faults);
      stalls = grind (arith, c.loop-done.invariant.stalls, c.in-Ok.ensures.unstalled);
    }
