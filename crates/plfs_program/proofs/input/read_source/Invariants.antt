use Rattle.std.proofs.Common.{◌≡◌, ◌≤◌, ◌+◌, ◌-◌, ◌^◌, vec_len}
use Rattle.edge_io.specs.Source.{HandsOver}
use Rattle.plfs_program.proofs.input.read_source.Given as goal

-- the bytes so far were handed over
abbrev pub invariant-loop-buffer : goal.invariant-loop-buffer
invariant-loop-buffer g l =
    let given = g.I.Source.given in
    record {
      handed : HandsOver l.bytes.items (given l.fn.input).left (given l.input).left;
      faults : (given l.input).faults ≡ (given l.fn.input).faults;
      within : vec_len l.bytes ≤ 2 ^ 20 + 1;
      size : vec_len l.buffer ≡ 2 ^ 16;
    }

abbrev pub decreases-loop-buffer : goal.decreases-loop-buffer
decreases-loop-buffer g l = 2 ^ 20 + 1 - vec_len l.bytes
