use Rattle.std.proofs.Common.{◌≡◌, false, drop}
use Rattle.attr_flow.specs.Listings.{has_entry}
use Rattle.attr_flow.proofs.listings.has_entry.Given as goal

abbrev pub invariant-loop-name : goal.invariant-loop-name
invariant-loop-name l = has_entry (drop l.name-index l.names) l.has ≡ has_entry l.names false
