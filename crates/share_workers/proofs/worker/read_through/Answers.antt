use Rattle.std.proofs.Common.{refl, sym, ◌∙◌}
use Rattle.share_workers.proofs.Facts.{not_refused}
use Rattle.share_workers.proofs.WorkerLemmas.{within_none, within_may, within_awaits, within_begun, within_breaks, within_more, within_over, within_ends}
use Rattle.share_workers.proofs.worker.read_through.Goals as goal

pub loop-machine-init : goal.loop-machine-init
loop-machine-init g c = (
  record { pass = c.requires.pass; known = c.requires.known; parts = refl },
  refl,
  λ program is. within_none c.args.turn.now c.args.pass.now c.requires.safe.0 program (g.F.Flow.standing c.args.flow) c.requires.safe.1 is c.requires.pass c.requires.known c.requires.safe.2,
)

pub call-reply-requires-clause-may : goal.call-reply-requires-clause-may
call-reply-requires-clause-may g c =
    within_may c.args.turn.now c.args.pass.now c.loop-machine.pass c.requires.safe.0 (g.F.Flow.standing c.loop-machine.machine) c.in-Some.call (c.loop-machine.invariant.2 c.requires.safe.0 c.requires.safe.1) (sym c.in-Some.is ∙ c.in_ok-call.ensures.call)

pub take-requires : goal.take-requires
take-requires g c =
    within_awaits c.args.turn.now c.args.pass.now c.loop-machine.pass c.requires.safe.0 (g.F.Flow.standing c.loop-machine.machine) (g.F.Flow.standing c.next.new.self) c.in-Some.call (c.loop-machine.invariant.2 c.requires.safe.0 c.requires.safe.1)
    (sym c.in-Some.is ∙ c.in_ok-call.ensures.call) c.in_ok-call.ensures.rest

pub loop-machine-preserved : goal.loop-machine-preserved
loop-machine-preserved g c =
    let call = c.call-reply.ensures in
    let inv = c.loop-machine.invariant in (
      record { pass = call.pass; known = call.legal; parts = call.called.parts ∙ inv.0.parts },
      call.called.ended ∙ inv.1,
      λ program is.
          within_more c.args.turn.now c.args.pass.now c.loop-machine.pass c.call-reply.new.pass program (g.F.Flow.standing c.loop-machine.machine) (g.F.Flow.standing c.next.new.self) (g.F.Flow.standing c.take.new.self) c.in-Some.call c.call-reply.result
          (inv.2 program is) (sym c.in-Some.is ∙ c.in_ok-call.ensures.call) c.in_ok-call.ensures.rest call.pass call.called call.legal (not_refused c.call-reply.result (λ bad. c.in_ok-take.ensures.no_memory bad)) c.in_ok-take.ensures.goes_on,
    )

pub returns-in_err-call-clause-begun : goal.returns-in_err-call-clause-begun
returns-in_err-call-clause-begun g c = λ program is. within_begun c.args.turn.now c.args.pass.now c.loop-machine.pass program (g.F.Flow.standing c.loop-machine.machine) (c.loop-machine.invariant.2 program is)

pub returns-in_err-take-clause-begun : goal.returns-in_err-take-clause-begun
returns-in_err-take-clause-begun g c = λ program is.
    within_breaks c.args.turn.now c.args.pass.now c.loop-machine.pass c.call-reply.new.pass program (g.F.Flow.standing c.loop-machine.machine) c.in-Some.call c.call-reply.result (c.loop-machine.invariant.2 program is) (sym c.in-Some.is ∙ c.in_ok-call.ensures.call) c.call-reply.ensures.called

pub returns-clause-begun : goal.returns-clause-begun
returns-clause-begun g c = λ program is. within_begun c.args.turn.now c.args.pass.now c.loop-machine.pass program (g.F.Flow.standing c.loop-machine.machine) (c.loop-machine.invariant.2 program is)

pub out-requires : goal.out-requires
out-requires g c =
    within_over c.args.turn.now c.args.pass.now c.loop-machine.pass c.requires.safe.0 (g.F.Flow.standing c.loop-machine.machine) (g.F.Flow.standing c.next.new.self) (c.loop-machine.invariant.2 c.requires.safe.0 c.requires.safe.1)
    (sym c.in_default.is ∙ c.in_ok-call.ensures.call) c.in_ok-call.ensures.rest

pub returns-clause-read : goal.returns-clause-read
returns-clause-read g c = λ program is.
    within_ends c.args.turn.now c.args.pass.now c.loop-machine.pass program (g.F.Flow.standing c.loop-machine.machine) (g.F.Flow.standing c.next.new.self) c.out.result (c.loop-machine.invariant.2 program is) c.in_ok-call.ensures.rest c.out.ensures
