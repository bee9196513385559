use Rattle.std.proofs.Common.{◌≡◌, ◌++◌, drop}
use Rattle.attr_flow.specs.Shares.{shares_left}
use Rattle.attr_flow.proofs.attr.shares_of_metadata.Given as goal

abbrev pub invariant-loop-meta : goal.invariant-loop-meta
invariant-loop-meta l = l.shares.items ++ shares_left (drop l.meta-index l.metas) ≡ shares_left l.metas
