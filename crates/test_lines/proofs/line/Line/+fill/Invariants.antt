use Rattle.std.proofs.Common.{length}
use Rattle.test_lines.proofs.line.Line.+fill.Given as goal

-- what is left of the pattern
abbrev pub decreases-fill : goal.decreases-fill
decreases-fill l = length l.pattern.now
