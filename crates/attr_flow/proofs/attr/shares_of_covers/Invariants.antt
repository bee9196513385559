use Rattle.std.proofs.Common.{◌≡◌, ◌++◌, drop}
use Rattle.attr_flow.specs.Shares.{shares_covered}
use Rattle.attr_flow.proofs.attr.shares_of_covers.Given as goal

abbrev pub invariant-loop-cover : goal.invariant-loop-cover
invariant-loop-cover l = l.shares.items ++ shares_covered (drop l.cover-index l.covers) ≡ shares_covered l.covers
