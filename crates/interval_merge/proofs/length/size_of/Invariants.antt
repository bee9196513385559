use Rattle.std.proofs.Common.{◌≡◌, drop, max}
use Rattle.plain_file.specs.Runs.{AreRuns}
use Rattle.plain_file.specs.Size.{end_after, size_from}
use Rattle.interval_merge.proofs.length.size_of.Given as goal

abbrev pub invariant-loop-piece : goal.invariant-loop-piece
invariant-loop-piece l = record {
  told : max l.size (end_after l.last (drop l.piece-index l.pieces)) ≡ size_from l.pieces l.truncs;
  runs : AreRuns (drop l.piece-index l.pieces);
}
