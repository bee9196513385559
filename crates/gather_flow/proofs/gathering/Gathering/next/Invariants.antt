use Rattle.std.proofs.Common.{◌≡◌, ◌≤◌}
use Rattle.gather_flow.specs.Gathering.{gather_standing, gather_left, machines_left}
use Rattle.gather_flow.proofs.gathering.Gathering.next.Given as goal

abbrev pub invariant-loop-call : goal.invariant-loop-call
invariant-loop-call l = (gather_standing l.gathering ≡ gather_standing l.fn.self) × (gather_left l.gathering ≤ gather_left l.fn.self)

abbrev pub decreases-loop-call : goal.decreases-loop-call
decreases-loop-call l = machines_left l.gathering
