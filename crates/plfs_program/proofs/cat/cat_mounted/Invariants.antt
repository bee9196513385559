use Rattle.run_core.specs.Making.{IsAtRest}
use Rattle.plfs_program.specs.Catting.{Reads}
use Rattle.plfs_program.proofs.cat.cat_mounted.Given as goal

abbrev pub invariant-loop-k : goal.invariant-loop-k
invariant-loop-k g l = record {
  so_far : Reads l.fn.name l.fn.mount l.line l.k (g.O.Sink.taking l.fn.out) l.reader l.mount (g.O.Sink.taking l.out);
  rests : IsAtRest l.reader;
}
