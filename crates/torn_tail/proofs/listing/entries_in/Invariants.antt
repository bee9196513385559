use Rattle.std.proofs.Common.{◌≡◌, [], drop}
use Rattle.torn_tail.specs.Recovering.{entries_named}
use Rattle.torn_tail.proofs.listing.entries_in.Given as goal

abbrev pub invariant-loop-name : goal.invariant-loop-name
invariant-loop-name l = entries_named (drop l.name-index l.names) l.list.items ≡ entries_named l.names []
