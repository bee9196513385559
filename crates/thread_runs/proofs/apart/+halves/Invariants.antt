use Rattle.std.proofs.Common.{◌+◌, ◌-◌, ◌*◌, length}
use Rattle.thread_runs.proofs.apart.+halves.Given as goal

abbrev pub decreases-each_apart : goal.decreases-each_apart
decreases-each_apart g l = 4 * length l.places.now

abbrev pub decreases-both_apart : goal.decreases-both_apart
decreases-both_apart g l = 4 * (length l.near.now + length l.far.now) - 1

abbrev pub decreases-both_apart-first : goal.decreases-both_apart-first
decreases-both_apart-first g l = 4 * length l.near.now + 1

abbrev pub decreases-both_apart-second : goal.decreases-both_apart-second
decreases-both_apart-second g l = 4 * length l.far.now + 1
