use Rattle.std.proofs.Common.{◌≡◌, ◌++◌}
use Rattle.index_reader.specs.Gathered.{covers_of, pieces_of_each}
use Rattle.index_reader.proofs.gathered.add_parts.Given as goal

abbrev pub invariant-loop-share : goal.invariant-loop-share
invariant-loop-share l = record {
  of_covers : l.covers.items ++ covers_of l.share-iterator.rest.items ≡ l.fn.covers.items ++ covers_of l.fn.shares;
  of_pieces : l.lists ++ pieces_of_each l.share-iterator.rest.items ≡ l.fn.lists ++ pieces_of_each l.fn.shares;
}
