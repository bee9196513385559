use Rattle.std.proofs.Common.{◌≡◌, drop}
use Rattle.index_reader.specs.Opening.{uncovered}
use Rattle.index_reader.proofs.listed.uncovered.Given as goal

abbrev pub invariant-loop-index : goal.invariant-loop-index
invariant-loop-index l = uncovered l.indices l.index (drop l.index l.covers) ≡ uncovered l.indices 0 l.covers
