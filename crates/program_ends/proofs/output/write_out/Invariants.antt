use Rattle.std.proofs.Common.{◌≡◌, ◌≤◌, ◌-◌, length, take}
use Rattle.edge_io.specs.Sink.{TakesOn}
use Rattle.program_ends.proofs.output.write_out.Given as goal

-- so many bytes of the text were taken, and no count has fallen
abbrev pub invariant-loop-done : goal.invariant-loop-done
invariant-loop-done g l =
    let taking = g.O.Sink.taking in
    record {
      within : l.done ≤ length l.text;
      bytes : TakesOn (take l.done l.text) (taking l.fn.out).taken (taking l.out).taken;
      faults : (taking l.out).faults ≡ (taking l.fn.out).faults;
      stalls : (taking l.out).stalls ≡ (taking l.fn.out).stalls;
    }

abbrev pub decreases-loop-done : goal.decreases-loop-done
decreases-loop-done g l = length l.text - l.done
