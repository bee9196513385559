use Rattle.std.proofs.Common.{◌≡◌}
use Rattle.turn_object.specs.Pass.{ended_of}
use Rattle.mount_model.specs.Standing.{ready}
use Rattle.mount_model.specs.declared.call.Call.{Call}
use Rattle.mount_model.specs.declared.reply.Reply.{Reply}
use Rattle.mount_model.specs.Program.{Program}
use Rattle.share_workers.specs.Passes.{IsAfter}
use Rattle.share_workers.specs.Workers.{IsWithin}
use Rattle.share_workers.proofs.worker.read_through.Given as goal

abbrev pub invariant-loop-machine : goal.invariant-loop-machine
invariant-loop-machine g l =
    IsAfter l.turn l.fn.pass l.pass × (ended_of l.pass ≡ ended_of l.fn.pass)
    × ((program : Program Call Reply g.row.F-Out.Denot) → g.F.Flow.standing l.fn.flow ≡ ready program → IsWithin l.turn l.fn.pass program l.pass (g.F.Flow.standing l.machine))

abbrev pub decreases-loop-machine : goal.decreases-loop-machine
decreases-loop-machine g l = g.F.Flow.left l.machine
