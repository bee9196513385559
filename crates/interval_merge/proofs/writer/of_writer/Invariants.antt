use Rattle.std.proofs.Common.{length}
use Rattle.std.specs.List.{All}
use Rattle.interval_merge.specs.Writer.{HasPiece}
use Rattle.interval_merge.proofs.WriterLemmas.{Grouped}
use Rattle.interval_merge.proofs.writer.of_writer.Given as goal

abbrev pub invariant-loop-rest : goal.invariant-loop-rest
invariant-loop-rest l = record {
  grouped : Grouped l.lists l.rest l.fn.entries;
  valid : All HasPiece l.rest;
}

abbrev pub decreases-loop-rest : goal.decreases-loop-rest
decreases-loop-rest l = length l.rest
