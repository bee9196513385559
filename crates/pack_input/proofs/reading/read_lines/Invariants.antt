use Rattle.std.proofs.Common.{◌≡◌, ◌+◌, ◌≤◌, length}
use Rattle.pack_input.specs.Reading.{files_of}
use Rattle.pack_input.specs.Words.{lines_of}
use Rattle.pack_input.proofs.Inputs.{behind_files}
use Rattle.pack_input.proofs.reading.read_lines.Given as goal

abbrev pub invariant-loop-rest : goal.invariant-loop-rest
invariant-loop-rest l = record {
  read : files_of 1 (lines_of l.bytes) ≡ behind_files l.files (files_of l.number (lines_of l.rest));
  few : l.number + length l.rest ≤ length l.bytes + 1;
}

abbrev pub decreases-loop-rest : goal.decreases-loop-rest
decreases-loop-rest l = length l.rest
