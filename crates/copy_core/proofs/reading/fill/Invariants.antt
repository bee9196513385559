use Rattle.std.proofs.Common.{◌≡◌, ◌≤◌, ◌-◌, length, vec_len, vec_capacity}
use Rattle.edge_io.specs.Source.{HandsOver}
use Rattle.plfs_types.specs.declared.bytes.TheConstants.{MAX_BLOCK}
use Rattle.copy_core.proofs.reading.fill.Given as goal

-- these bytes were handed over, and there is room for the rest of a block
abbrev pub invariant-loop-bytes : goal.invariant-loop-bytes
invariant-loop-bytes g l =
    let given = g.I.Source.given in
    record {
      within : vec_len l.bytes ≤ MAX_BLOCK;
      space : MAX_BLOCK ≤ vec_capacity l.bytes;
      part : length l.part ≡ 131072;
      handed : HandsOver l.bytes.items (given l.fn.input).left (given l.input).left;
      faults : (given l.input).faults ≡ (given l.fn.input).faults;
    }

abbrev pub decreases-loop-bytes : goal.decreases-loop-bytes
decreases-loop-bytes g l = MAX_BLOCK - vec_len l.bytes
