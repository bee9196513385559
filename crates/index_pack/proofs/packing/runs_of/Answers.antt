use Rattle.std.proofs.Common.{arith}
use Rattle.index_pack.proofs.Following.{next_packed}
use Rattle.index_pack.proofs.packing.runs_of.Goals as goal

pub with_entry-requires-clause-follows : goal.with_entry-requires-clause-follows
with_entry-requires-clause-follows c =
    next_packed c.args.entries.now _ c.loop-index.index _ (omega arith) c.loop-index.invariant.entries c.requires
