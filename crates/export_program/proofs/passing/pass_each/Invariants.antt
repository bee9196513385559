use Rattle.std.proofs.Common.{length}
use Rattle.export_program.specs.Passing.{at}
use Rattle.export_program.proofs.Passages.{SoFar}
use Rattle.export_program.proofs.passing.pass_each.Given as goal

abbrev pub invariant-loop-name : goal.invariant-loop-name
invariant-loop-name g l =
    SoFar l.fn.names.items (at l.fn.mount (g.H.Shelf.deeds l.fn.shelf) (g.O.Sink.taking l.fn.out)) l.rest.items (at l.mount (g.H.Shelf.deeds l.shelf) (g.O.Sink.taking l.out)) l.status

abbrev pub decreases-loop-name : goal.decreases-loop-name
decreases-loop-name g l = length l.rest.items
