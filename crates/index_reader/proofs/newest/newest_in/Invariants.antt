use Rattle.std.proofs.Common.{◌≡◌, drop, None}
use Rattle.index_reader.specs.Newest.{newest_in}
use Rattle.index_reader.proofs.newest.newest_in.Given as goal

abbrev pub invariant-loop-name : goal.invariant-loop-name
invariant-loop-name l = newest_in (drop l.name-index l.names) l.newest ≡ newest_in l.names None
