use Rattle.std.proofs.Common.{◌≡◌, ◌++◌, List, take}
use Rattle.plfs_types.specs.declared.entries.Entry.{Entry}
use Rattle.interval_merge.specs.Writer.{AscendFrom}
use Rattle.interval_merge.proofs.writer.forward_len.Given as goal

abbrev pub invariant-loop-i : goal.invariant-loop-i
invariant-loop-i l = record {
  forward : (more : List Entry) → AscendFrom l.end more → AscendFrom 0 (take l.i l.entries ++ more);
  started : l.i ≡ 0 → l.end ≡ 0;
}
