use Rattle.std.proofs.Common.{length}
use Rattle.put_program.specs.Importing.{sources_of}
use Rattle.put_program.proofs.Imports.{SoFar}
use Rattle.put_program.proofs.importing.put_each.Given as goal

abbrev pub invariant-loop-file : goal.invariant-loop-file
invariant-loop-file g l = SoFar l.host l.over (sources_of g.I.Source.given l.fn.files.items) l.fn.mount (g.O.Sink.taking l.fn.out) (sources_of g.I.Source.given l.rest.items) l.mount (g.O.Sink.taking l.out) l.status

abbrev pub decreases-loop-file : goal.decreases-loop-file
decreases-loop-file g l = length l.rest.items
