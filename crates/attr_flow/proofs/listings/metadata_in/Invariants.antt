use Rattle.std.proofs.Common.{◌≡◌, [], drop}
use Rattle.attr_flow.specs.Listings.{metadata_named}
use Rattle.attr_flow.proofs.listings.metadata_in.Given as goal

abbrev pub invariant-loop-name : goal.invariant-loop-name
invariant-loop-name l = metadata_named (drop l.name-index l.names) l.list.items ≡ metadata_named l.names []
