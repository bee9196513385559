use Rattle.store_api.specs.Acts.{Stored}
use Rattle.mount_model.specs.Paths.{Name}
use Rattle.mount_model.specs.State.{State}
use Rattle.drain_copy.specs.Machine.{drain_left, drain_standing}
use Rattle.drain_copy.specs.Standing.{IsReady}
use Rattle.drain_program.specs.Stepping.{NearsBy}
use Rattle.drain_program.proofs.driving.ask_all.Given as goal

abbrev pub invariant-loop : goal.invariant-loop
invariant-loop g l = record {
  ready : IsReady (drain_standing l.drain);
  nearer : (name : Name) (start : State) (before : Stored) → NearsBy name start before (drain_standing l.fn.drain) l.fn.mount (g.D.Store.stored l.fn.target) → NearsBy name start before (drain_standing l.drain) l.mount (g.D.Store.stored l.target);
}

abbrev pub decreases-loop : goal.decreases-loop
decreases-loop g l = drain_left l.drain
