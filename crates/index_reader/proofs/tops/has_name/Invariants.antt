use Rattle.std.proofs.Common.{◌≡◌, drop}
use Rattle.index_reader.specs.Searching.{has_name}
use Rattle.index_reader.proofs.tops.has_name.Given as goal

abbrev pub invariant-loop-other : goal.invariant-loop-other
invariant-loop-other l = has_name l.name (drop l.other-index l.names) ≡ has_name l.name l.names
