use Rattle.std.proofs.Common.{◌≡◌}
use Rattle.turn_object.specs.Pass.{seen_of, IsPassOf}
use Rattle.thread_runs.specs.Phases.{Keeps, CaughtUp}
use Rattle.thread_runs.specs.Each.{ChangedTo}
use Rattle.thread_runs.proofs.phase.begin_all.Given as goal

abbrev pub invariant-loop-index : goal.invariant-loop-index
invariant-loop-index g l =
    IsPassOf l.turn l.main × (Keeps 0 l.index l.fn.main l.main × (seen_of l.main ≡ seen_of l.fn.main))
    × ChangedTo (CaughtUp l.turn (seen_of l.fn.main)) l.index l.fn.players l.players
