use Rattle.edge_io.proofs.HandingOver.{has_read, rest_of}
use Rattle.edge_io.proofs.memory_source.MemorySourceSource.read.Goals as goal

pub returns-clause-source : goal.returns-clause-source
returns-clause-source c =
    let left = rest_of c.self.inside.at c.self.inside.bytes c.as_slice-2.result.now c.as_slice-2.ensures in
    rw (← c.self.view_is) (has_read c.hand_over-count.result c.self.inside.piece c.self.inside.at c.self.inside.faults c.self.inside.bytes c.args.into.now c.hand_over-count.new.into c.self.invariant.0 c.self.invariant.1 (rw left at c.hand_over-count.ensures.count) (rw left at c.hand_over-count.ensures.bytes))
