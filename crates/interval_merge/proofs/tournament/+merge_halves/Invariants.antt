use Rattle.std.proofs.Common.{vec_len}
use Rattle.interval_merge.proofs.tournament.+merge_halves.Given as goal

abbrev pub decreases-merge_halves : goal.decreases-merge_halves
decreases-merge_halves l = vec_len l.lists
