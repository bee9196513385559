use Rattle.std.proofs.Common.{◌≡◌, [], drop}
use Rattle.drain_read.specs.Holding.{settled_named}
use Rattle.drain_read.proofs.settled.settled_in.Given as goal

abbrev pub invariant-loop-name : goal.invariant-loop-name
invariant-loop-name l = settled_named (drop l.name-index l.names) l.list.items ≡ settled_named l.names []
