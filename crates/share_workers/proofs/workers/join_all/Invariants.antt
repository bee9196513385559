use Rattle.std.proofs.Common.{List, length, take}
use Rattle.turn_object.specs.Pass.{seen_of}
use Rattle.gather_flow.specs.Workers.{Reading}
use Rattle.share_workers.specs.Workers.{EachHasWorked, Joins, Gathers}
use Rattle.share_workers.proofs.workers.join_all.Given as goal

abbrev pub invariant-loop-worker : goal.invariant-loop-worker
invariant-loop-worker g l =
    (goal.iterator-loop-worker g).can_next l.worker-iterator × (goal.iterator-loop-worker g).is_finite l.worker-iterator
    × Joins l.turn l.fn.pass l.pass l.yielded
    × ((programs : List Reading) → EachHasWorked l.turn (seen_of l.fn.pass) programs l.fn.workers.items → Gathers l.turn (take (length l.yielded) programs) l.fn.pass l.yielded l.results.items l.whole)
