use Rattle.mount_sound.specs.Sound.{IsFine}
use Rattle.export_program.proofs.Pieces.{SoFar}
use Rattle.export_program.proofs.exporting.write_pieces.Given as goal

abbrev pub invariant-loop-k : goal.invariant-loop-k
invariant-loop-k g l = record {
  so_far : SoFar l.reader l.fn.mount (g.O.Sink.taking l.fn.out) l.k l.mount (g.O.Sink.taking l.out);
  fine : IsFine l.mount;
}
