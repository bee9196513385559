use Rattle.lone_flow.specs.Driving.{NearsFrom}
use Rattle.lone_flow.proofs.driving.drive.Given as goal

abbrev pub invariant-loop-machine : goal.invariant-loop-machine
invariant-loop-machine g l = record { so_far : NearsFrom (g.F.Flow.standing l.fn.machine) l.fn.mount (g.F.Flow.standing l.machine) l.mount }

abbrev pub decreases-loop-machine : goal.decreases-loop-machine
decreases-loop-machine g l = g.F.Flow.left l.machine
