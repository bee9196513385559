use Rattle.std.proofs.Common.{sym, ◌∙◌, arith}
use Rattle.mount_core.proofs.Memory.{on_err}
use Rattle.actor_core.specs.Standings.{progress_of}
use Rattle.share_workers.proofs.Facts.{not_refused}
use Rattle.thread_runs.proofs.Driving.{driven_first, driven_ready, driven_asks, driven_out, driven_more, driven_broken, driven_breaks, driven_then_breaks, has_line, driven_line}
use Rattle.thread_runs.proofs.Acting.{after_both}
use Rattle.thread_runs.proofs.SharingOut.{driven_then}
use Rattle.thread_runs.proofs.player.drive.Goals as goal

pub loop-ask-init : goal.loop-ask-init
loop-ask-init g c = driven_first c.args.turn.now c.args.pass.now (progress_of c.args.actor.now) c.requires.pass c.requires.known c.requires.may c.requires.busy

pub next-requires : goal.next-requires
next-requires g c = driven_ready c.args.turn.now c.args.pass.now c.loop-ask.pass (progress_of c.args.actor.now) (progress_of c.loop-ask.actor) c.loop-ask.invariant

pub call-reply-requires-clause-may : goal.call-reply-requires-clause-may
call-reply-requires-clause-may g c =
    (driven_asks c.args.turn.now c.args.pass.now c.loop-ask.pass (progress_of c.args.actor.now) (progress_of c.loop-ask.actor) c.in-Some.ask c.loop-ask.invariant (sym c.in-Some.is ∙ c.in_ok-ask.ensures.ask)).may

pub take-requires : goal.take-requires
take-requires g c =
    driven_out c.args.turn.now c.args.pass.now c.loop-ask.pass (progress_of c.args.actor.now) (progress_of c.loop-ask.actor) (progress_of c.next.new.self) c.in-Some.ask c.loop-ask.invariant (sym c.in-Some.is ∙ c.in_ok-ask.ensures.ask) c.in_ok-ask.ensures.goes_on

pub share_out-requires-clause-may : goal.share_out-requires-clause-may
share_out-requires-clause-may g c = λ κs lives.
    let more =
    driven_more c.args.turn.now c.args.pass.now c.loop-ask.pass c.call-reply.new.pass (progress_of c.args.actor.now) (progress_of c.loop-ask.actor) (progress_of c.next.new.self) (progress_of c.take.new.self) c.in-Some.ask c.call-reply.result
    c.loop-ask.invariant (sym c.in-Some.is ∙ c.in_ok-ask.ensures.ask) c.in_ok-ask.ensures.goes_on c.call-reply.ensures.pass c.call-reply.ensures.called c.call-reply.ensures.legal (not_refused c.call-reply.result (λ bad. c.in_ok-take.ensures.no_memory bad)) c.in_ok-take.ensures.goes_on in
    more.may

pub share_out-requires-clause-busy : goal.share_out-requires-clause-busy
share_out-requires-clause-busy g c = λ κs lives.
    let more =
    driven_more c.args.turn.now c.args.pass.now c.loop-ask.pass c.call-reply.new.pass (progress_of c.args.actor.now) (progress_of c.loop-ask.actor) (progress_of c.next.new.self) (progress_of c.take.new.self) c.in-Some.ask c.call-reply.result
    c.loop-ask.invariant (sym c.in-Some.is ∙ c.in_ok-ask.ensures.ask) c.in_ok-ask.ensures.goes_on c.call-reply.ensures.pass c.call-reply.ensures.called c.call-reply.ensures.legal (not_refused c.call-reply.result (λ bad. c.in_ok-take.ensures.no_memory bad)) c.in_ok-take.ensures.goes_on in
    more.busy

pub share_out-requires-clause-parts : goal.share_out-requires-clause-parts
share_out-requires-clause-parts g c = λ κs lives. let p = c.call-reply.ensures.called.parts in let q = c.loop-ask.invariant.after.parts in let r = c.requires.parts in omega (arith, p, q, r)

pub loop-ask-preserved : goal.loop-ask-preserved
loop-ask-preserved g c =
    let more =
    driven_more c.args.turn.now c.args.pass.now c.loop-ask.pass c.call-reply.new.pass (progress_of c.args.actor.now) (progress_of c.loop-ask.actor) (progress_of c.next.new.self) (progress_of c.take.new.self) c.in-Some.ask c.call-reply.result
    c.loop-ask.invariant (sym c.in-Some.is ∙ c.in_ok-ask.ensures.ask) c.in_ok-ask.ensures.goes_on c.call-reply.ensures.pass c.call-reply.ensures.called c.call-reply.ensures.legal (not_refused c.call-reply.result (λ bad. c.in_ok-take.ensures.no_memory bad)) c.in_ok-take.ensures.goes_on in
    driven_then c.args.turn.now c.args.pass.now c.call-reply.new.pass c.share_out.new.pass (progress_of c.args.actor.now) (progress_of c.take.new.self) (progress_of c.share_out.new.actor) more c.in_ok-share_out.ensures.driven

pub returns-in_err-share_out-clause-after : goal.returns-in_err-share_out-clause-after
returns-in_err-share_out-clause-after g c =
    let more =
    driven_more c.args.turn.now c.args.pass.now c.loop-ask.pass c.call-reply.new.pass (progress_of c.args.actor.now) (progress_of c.loop-ask.actor) (progress_of c.next.new.self) (progress_of c.take.new.self) c.in-Some.ask c.call-reply.result
    c.loop-ask.invariant (sym c.in-Some.is ∙ c.in_ok-ask.ensures.ask) c.in_ok-ask.ensures.goes_on c.call-reply.ensures.pass c.call-reply.ensures.called c.call-reply.ensures.legal (not_refused c.call-reply.result (λ bad. c.in_ok-take.ensures.no_memory bad)) c.in_ok-take.ensures.goes_on in
    after_both c.args.turn.now c.args.pass.now c.call-reply.new.pass c.share_out.new.pass more.after c.share_out.ensures.after

pub unreachable-requires : goal.unreachable-requires
unreachable-requires g c =
    has_line c.args.turn.now c.args.pass.now c.loop-ask.pass (progress_of c.args.actor.now) (progress_of c.loop-ask.actor) (progress_of c.next.new.self) c.line.result c.loop-ask.invariant (sym c.in_default.is ∙ c.in_ok-ask.ensures.ask) c.in_ok-ask.ensures.goes_on c.line.ensures.line c.in-None.is

pub returns-clause-comes : goal.returns-clause-comes
returns-clause-comes g c =
    driven_line c.args.turn.now c.args.pass.now c.loop-ask.pass (progress_of c.args.actor.now) (progress_of c.loop-ask.actor) (progress_of c.next.new.self) (progress_of c.line.new.self) c.in-Some-line.line c.loop-ask.invariant (sym c.in_default.is ∙ c.in_ok-ask.ensures.ask) c.in_ok-ask.ensures.goes_on
    (sym c.in-Some-line.is ∙ c.line.ensures.line) c.line.ensures.taken

pub returns-in_err-ask-clause-broken : goal.returns-in_err-ask-clause-broken
returns-in_err-ask-clause-broken g c = on_err c.from_residual.result _ (driven_broken c.args.turn.now c.args.pass.now c.loop-ask.pass (progress_of c.args.actor.now) (progress_of c.loop-ask.actor) c.loop-ask.invariant)

pub returns-in_err-take-clause-broken : goal.returns-in_err-take-clause-broken
returns-in_err-take-clause-broken g c =
    on_err c.from_residual-in_err-take.result _ (driven_breaks c.args.turn.now c.args.pass.now c.loop-ask.pass c.call-reply.new.pass (progress_of c.args.actor.now) (progress_of c.loop-ask.actor) c.in-Some.ask c.call-reply.result c.loop-ask.invariant (sym c.in-Some.is ∙ c.in_ok-ask.ensures.ask) c.call-reply.ensures.called)

pub returns-in_err-share_out-clause-broken : goal.returns-in_err-share_out-clause-broken
returns-in_err-share_out-clause-broken g c =
    let more =
    driven_more c.args.turn.now c.args.pass.now c.loop-ask.pass c.call-reply.new.pass (progress_of c.args.actor.now) (progress_of c.loop-ask.actor) (progress_of c.next.new.self) (progress_of c.take.new.self) c.in-Some.ask c.call-reply.result
    c.loop-ask.invariant (sym c.in-Some.is ∙ c.in_ok-ask.ensures.ask) c.in_ok-ask.ensures.goes_on c.call-reply.ensures.pass c.call-reply.ensures.called c.call-reply.ensures.legal (not_refused c.call-reply.result (λ bad. c.in_ok-take.ensures.no_memory bad)) c.in_ok-take.ensures.goes_on in
    on_err c.from_residual-in_err-share_out.result _ (driven_then_breaks c.args.turn.now c.args.pass.now c.call-reply.new.pass c.share_out.new.pass (progress_of c.args.actor.now) (progress_of c.take.new.self) more c.in_err-share_out.ensures.broken)
