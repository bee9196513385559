use Rattle.std.proofs.Common.{sym, ◌∙◌}
use Rattle.mount_core.proofs.Memory.{not_refused, on_err}
use Rattle.lone_flow.proofs.Coming.{at_end, broken_further, broken_off, greeted, is_out}
use Rattle.lone_flow.proofs.driving.drive.Goals as goal

pub loop-machine-init : goal.loop-machine-init
loop-machine-init g c = record { so_far = greeted (g.F.Flow.standing c.args.machine) c.args.mount.now c.make.new.mount c.make.result c.requires.may c.make.ensures }

pub take-requires : goal.take-requires
take-requires g c = (is_out (g.F.Flow.standing c.args.machine) c.args.mount.now c.loop-machine.mount (g.F.Flow.standing c.loop-machine.machine) (g.F.Flow.standing c.next.new.self) c.in-Some.call c.loop-machine.invariant.so_far (sym c.in-Some.is ∙ c.in_ok-call.ensures.call) c.in_ok-call.ensures.rest).awaits

pub loop-machine-preserved : goal.loop-machine-preserved
loop-machine-preserved g c = record {
  so_far = (is_out (g.F.Flow.standing c.args.machine) c.args.mount.now c.loop-machine.mount (g.F.Flow.standing c.loop-machine.machine) (g.F.Flow.standing c.next.new.self) c.in-Some.call c.loop-machine.invariant.so_far (sym c.in-Some.is ∙ c.in_ok-call.ensures.call) c.in_ok-call.ensures.rest).nearer
      c.make-reply.result c.make-reply.new.mount (g.F.Flow.standing c.take.new.self) c.make-reply.ensures (not_refused c.make-reply.result (λ bad. c.in_ok-take.ensures.no_memory bad)) c.in_ok-take.ensures.goes_on;
}

pub returns-in_err-call-clause-broken_off : goal.returns-in_err-call-clause-broken_off
returns-in_err-call-clause-broken_off g c = on_err c.from_residual.result _ (
    broken_off (g.F.Flow.standing c.args.machine) c.args.mount.now c.loop-machine.mount (g.F.Flow.standing c.loop-machine.machine) c.loop-machine.invariant.so_far)

pub returns-in_err-take-clause-broken_off : goal.returns-in_err-take-clause-broken_off
returns-in_err-take-clause-broken_off g c = on_err c.from_residual-in_err-take.result _ (
    broken_further (g.F.Flow.standing c.args.machine) c.args.mount.now c.loop-machine.mount c.make-reply.new.mount (g.F.Flow.standing c.loop-machine.machine) c.in-Some.call c.make-reply.result c.loop-machine.invariant.so_far (sym c.in-Some.is ∙ c.in_ok-call.ensures.call)
    (is_out (g.F.Flow.standing c.args.machine) c.args.mount.now c.loop-machine.mount (g.F.Flow.standing c.loop-machine.machine) (g.F.Flow.standing c.next.new.self) c.in-Some.call c.loop-machine.invariant.so_far (sym c.in-Some.is ∙ c.in_ok-call.ensures.call) c.in_ok-call.ensures.rest).may c.make-reply.ensures)

pub out-requires : goal.out-requires
out-requires g c = (at_end (g.F.Flow.standing c.args.machine) c.args.mount.now c.loop-machine.mount (g.F.Flow.standing c.loop-machine.machine) (g.F.Flow.standing c.next.new.self) c.loop-machine.invariant.so_far (sym c.in_default.is ∙ c.in_ok-call.ensures.call) c.in_ok-call.ensures.rest).is_over

pub returns-clause-drives : goal.returns-clause-drives
returns-clause-drives g c = (at_end (g.F.Flow.standing c.args.machine) c.args.mount.now c.loop-machine.mount (g.F.Flow.standing c.loop-machine.machine) (g.F.Flow.standing c.next.new.self) c.loop-machine.invariant.so_far (sym c.in_default.is ∙ c.in_ok-call.ensures.call) c.in_ok-call.ensures.rest).drives c.out.result c.out.ensures
