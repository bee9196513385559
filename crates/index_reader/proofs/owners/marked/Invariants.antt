use Rattle.std.proofs.Common.{◌≡◌, ◌++◌, drop, map}
use Rattle.index_reader.specs.Opening.{dropping_of}
use Rattle.index_reader.proofs.owners.marked.Given as goal

abbrev pub invariant-loop-owner : goal.invariant-loop-owner
invariant-loop-owner l = l.droppings ++ map (dropping_of l.packs) (drop l.owner-index l.list) ≡ map (dropping_of l.packs) l.list
