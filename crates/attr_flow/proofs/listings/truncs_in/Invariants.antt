use Rattle.std.proofs.Common.{◌≡◌, [], drop}
use Rattle.attr_flow.specs.Listings.{truncs_named}
use Rattle.attr_flow.proofs.listings.truncs_in.Given as goal

abbrev pub invariant-loop-name : goal.invariant-loop-name
invariant-loop-name l = truncs_named (drop l.name-index l.names) l.list.items ≡ truncs_named l.names []
