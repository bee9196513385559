use Rattle.thread_runs.specs.Running.{Leaves}
use Rattle.thread_runs.specs.Collecting.{lines_in}
use Rattle.thread_runs.proofs.leaving.leave_all.Given as goal

abbrev pub invariant-loop-player : goal.invariant-loop-player
invariant-loop-player g l =
    (goal.iterator-loop-player g).can_next l.player-iterator × (goal.iterator-loop-player g).is_finite l.player-iterator
    × Leaves l.turn l.fn.main l.main l.yielded (lines_in l.all.items) l.so_far
