use Rattle.share_workers.proofs.Facts.{not_refused, on_err}
use Rattle.std.proofs.Common.{refl, sym, ap, ◌∙◌}
use Rattle.actor_core.specs.Progress.{with_reply}
use Rattle.actor_core.specs.Standings.{progress_of}
use Rattle.mount_sound.proofs.Facts.{step_fine}
use Rattle.serve_core.proofs.Steps.{asks_next, is_out, ready, not_near, nearer, no_line_left, carries}
use Rattle.serve_core.proofs.Breaks.{stops, stops_at}
use Rattle.serve_core.proofs.client.Client.carry.Goals as goal

pub loop-ask-init : goal.loop-ask-init
loop-ask-init g c = record { so_far = not_near c.args.self.now c.args.mount.now c.requires.safe c.requires.fine }

pub next-requires : goal.next-requires
next-requires g c = ready c.loop-ask.self.number c.loop-ask.mount (progress_of c.loop-ask.self.actor) c.loop-ask.invariant.so_far.safe

pub call-reply-requires : goal.call-reply-requires
call-reply-requires g c = (asks_next c.loop-ask.self.number c.loop-ask.mount (progress_of c.loop-ask.self.actor) c.in-Some.ask c.loop-ask.invariant.so_far.safe (sym c.in-Some.is ∙ c.in_ok-ask.ensures.ask)).may

pub take-requires : goal.take-requires
take-requires g c = is_out c.loop-ask.self.number c.loop-ask.mount (progress_of c.loop-ask.self.actor) c.in-Some.ask (asks_next c.loop-ask.self.number c.loop-ask.mount (progress_of c.loop-ask.self.actor) c.in-Some.ask c.loop-ask.invariant.so_far.safe (sym c.in-Some.is ∙ c.in_ok-ask.ensures.ask)) (progress_of c.next.new.self) c.in_ok-ask.ensures.goes_on

pub returns-in_err-ask-clause-broken : goal.returns-in_err-ask-clause-broken
returns-in_err-ask-clause-broken g c = on_err c.from_residual.result _ (
    stops c.args.self.now c.loop-ask.self c.args.mount.now c.loop-ask.mount c.loop-ask.invariant.so_far)

pub returns-in_err-ask-clause-fine : goal.returns-in_err-ask-clause-fine
returns-in_err-ask-clause-fine g c = c.loop-ask.invariant.so_far.fine

pub returns-in_err-take-clause-broken : goal.returns-in_err-take-clause-broken
returns-in_err-take-clause-broken g c = on_err c.from_residual-in_err-take.result _ (
    stops_at c.args.self.now c.loop-ask.self c.args.mount.now c.loop-ask.mount c.call-reply.new.mount c.in-Some.ask c.call-reply.result c.loop-ask.invariant.so_far (asks_next c.loop-ask.self.number c.loop-ask.mount (progress_of c.loop-ask.self.actor) c.in-Some.ask c.loop-ask.invariant.so_far.safe (sym c.in-Some.is ∙ c.in_ok-ask.ensures.ask)) c.call-reply.ensures)

pub returns-in_err-take-clause-fine : goal.returns-in_err-take-clause-fine
returns-in_err-take-clause-fine g c =
    step_fine c.loop-ask.mount c.call-reply.new.mount c.loop-ask.self.number c.in-Some.ask c.call-reply.result c.call-reply.ensures.lawful.0 c.call-reply.ensures.lawful.1 c.loop-ask.invariant.so_far.fine

pub loop-ask-preserved : goal.loop-ask-preserved
loop-ask-preserved g c = record {
  so_far = nearer c.args.self.now c.loop-ask.self _ c.args.mount.now c.loop-ask.mount c.call-reply.new.mount c.in-Some.ask c.call-reply.result c.loop-ask.invariant.so_far (asks_next c.loop-ask.self.number c.loop-ask.mount (progress_of c.loop-ask.self.actor) c.in-Some.ask c.loop-ask.invariant.so_far.safe (sym c.in-Some.is ∙ c.in_ok-ask.ensures.ask)) c.call-reply.ensures (not_refused c.call-reply.result (λ bad. c.in_ok-take.ensures.no_memory bad))
      (c.in_ok-take.ensures.goes_on ∙ ap (λ z. with_reply z c.call-reply.result) c.in_ok-ask.ensures.goes_on) refl;
}

pub unreachable-requires : goal.unreachable-requires
unreachable-requires g c =
    no_line_left c.loop-ask.self.number c.loop-ask.mount (progress_of c.loop-ask.self.actor) (progress_of c.next.new.self) c.line.result c.loop-ask.invariant.so_far.safe (sym c.in_default.is ∙ c.in_ok-ask.ensures.ask) c.in_ok-ask.ensures.goes_on c.line.ensures.line c.in-None.is

pub returns-clause-carries : goal.returns-clause-carries
returns-clause-carries g c =
    carries c.args.self.now c.loop-ask.self _ c.args.mount.now c.loop-ask.mount (progress_of c.next.new.self) c.in-Some-line.line c.loop-ask.invariant.so_far (sym c.in_default.is ∙ c.in_ok-ask.ensures.ask) c.in_ok-ask.ensures.goes_on
    (sym c.in-Some-line.is ∙ c.line.ensures.line) c.line.ensures.taken refl

pub returns-clause-fine : goal.returns-clause-fine
returns-clause-fine g c = c.loop-ask.invariant.so_far.fine
