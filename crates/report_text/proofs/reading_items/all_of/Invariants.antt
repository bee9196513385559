use Rattle.std.proofs.Common.{◌≡◌, length}
use Rattle.report_text.proofs.Loops.{with_front, items_from}
use Rattle.report_text.proofs.reading_items.all_of.Given as goal

abbrev pub invariant-loop-item : goal.invariant-loop-item
invariant-loop-item g l = with_front l.items (items_from g.T.Readable.read_at l.separator l.rest) ≡ items_from g.T.Readable.read_at l.separator l.text

abbrev pub decreases-loop-item : goal.decreases-loop-item
decreases-loop-item g l = length l.rest
