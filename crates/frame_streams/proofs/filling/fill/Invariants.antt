use Rattle.std.proofs.Common.{◌≡◌, ◌≤◌, ◌-◌, length, take}
use Rattle.edge_io.specs.Source.{HandsOver}
use Rattle.frame_streams.proofs.filling.fill.Given as goal

-- so many bytes were handed over
abbrev pub invariant-loop-count : goal.invariant-loop-count
invariant-loop-count g l =
    let given = g.I.Source.given in
    record {
      within : l.count ≤ length l.fn.into;
      handed : HandsOver (take l.count l.into) (given l.fn.input).left (given l.input).left;
      faults : (given l.input).faults ≡ (given l.fn.input).faults;
    }

abbrev pub decreases-loop-count : goal.decreases-loop-count
decreases-loop-count g l = length l.fn.into - l.count
