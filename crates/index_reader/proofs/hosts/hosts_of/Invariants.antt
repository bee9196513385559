use Rattle.std.proofs.Common.{◌≡◌, ◌++◌, drop}
use Rattle.index_reader.specs.Hosts.{hosts_of}
use Rattle.index_reader.proofs.hosts.hosts_of.Given as goal

abbrev pub invariant-loop-dropping : goal.invariant-loop-dropping
invariant-loop-dropping l = l.hosts ++ hosts_of (drop l.dropping-index l.droppings) ≡ hosts_of l.droppings
