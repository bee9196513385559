use Rattle.std.proofs.Common.{◌+◌, ◌*◌}
use Rattle.interval_merge.proofs.threads.+fn-merge_halves_on-join+arg2+fn-merge_halves_on-join+arg3+merge_halves_on.Given as goal

abbrev pub decreases-join+arg2 : goal.decreases-join+arg2
decreases-join+arg2 g l = 2 * l.theirs + 1

abbrev pub decreases-join+arg3 : goal.decreases-join+arg3
decreases-join+arg3 g l = 2 * l.ours + 1

abbrev pub decreases-merge_halves_on : goal.decreases-merge_halves_on
decreases-merge_halves_on g l = 2 * l.workers
