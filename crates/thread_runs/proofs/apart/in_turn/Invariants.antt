use Rattle.thread_runs.specs.Apart.{Leaves}
use Rattle.thread_runs.specs.Each.{ChangedTo}
use Rattle.thread_runs.proofs.apart.in_turn.Given as goal

abbrev pub invariant-loop-index : goal.invariant-loop-index
invariant-loop-index g l = ChangedTo (Leaves g.F.Fn l.f) l.index l.fn.items l.items
