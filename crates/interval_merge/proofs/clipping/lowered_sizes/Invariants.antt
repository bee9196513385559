use Rattle.std.proofs.Common.{◌≡◌, ◌++◌, ◌^◌, drop}
use Rattle.interval_merge.proofs.CutLemmas.{lowered}
use Rattle.interval_merge.proofs.clipping.lowered_sizes.Given as goal

abbrev pub invariant-loop-trunc : goal.invariant-loop-trunc
invariant-loop-trunc l = l.cuts.items ++ lowered l.least (drop l.trunc-index l.order) ≡ lowered (2 ^ 40) l.order
