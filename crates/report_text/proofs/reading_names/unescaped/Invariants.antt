use Rattle.std.proofs.Common.{◌≡◌, length}
use Rattle.report_text.specs.Reading.{name_at}
use Rattle.report_text.proofs.Loops.{with_front}
use Rattle.report_text.proofs.reading_names.unescaped.Given as goal

abbrev pub invariant-loop-first : goal.invariant-loop-first
invariant-loop-first l = with_front l.name.items (name_at l.rest) ≡ name_at l.text

abbrev pub decreases-loop-first : goal.decreases-loop-first
decreases-loop-first l = length l.rest
