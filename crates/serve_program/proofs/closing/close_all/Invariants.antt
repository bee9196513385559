use Rattle.mount_sound.specs.Sound.{IsFine}
use Rattle.serve_program.specs.Closing.{HaveClosed}
use Rattle.serve_program.proofs.closing.close_all.Given as goal

abbrev pub invariant-loop-place : goal.invariant-loop-place
invariant-loop-place g l = record {
  closed : HaveClosed l.place l.fn.clients l.fn.mount l.worst l.clients l.mount;
  fine : IsFine l.mount;
}
