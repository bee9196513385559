use Rattle.std.proofs.Common.{◌≡◌, ◌≤◌, ◌+◌, ◌*◌, ◌^◌, drop}
use Rattle.attr_flow.specs.Shares.{stored_in}
use Rattle.attr_flow.proofs.attr.stored.Given as goal

abbrev pub invariant-loop-share : goal.invariant-loop-share
invariant-loop-share l = record {
  told : l.stored + stored_in (drop l.share-index l.shares) ≡ stored_in l.shares;
  bound : l.stored ≤ 2 ^ 64 * l.share-index;
}
