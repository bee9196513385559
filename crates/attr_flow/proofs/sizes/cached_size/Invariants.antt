use Rattle.std.proofs.Common.{◌≡◌, drop, max}
use Rattle.attr_flow.specs.Sizes.{end_left_after, cached_size}
use Rattle.attr_flow.proofs.sizes.cached_size.Given as goal

abbrev pub invariant-loop-meta : goal.invariant-loop-meta
invariant-loop-meta l = max l.size (end_left_after l.last (drop l.meta-index l.metas)) ≡ cached_size l.metas l.truncs
