use Rattle.share_workers.proofs.Facts.{on_err}
use Rattle.std.proofs.Common.{refl, sym, ap, ◌∙◌}
use Rattle.actor_core.specs.Progress.{with_reply}
use Rattle.actor_core.specs.Standings.{progress_of}
use Rattle.share_workers.proofs.Facts.{not_refused}
use Rattle.run_core.proofs.Players.Works.{asks_next, is_out}
use Rattle.run_core.proofs.Players.Turning.{not_yet, further, turned, greeted, called, no_further_call}
use Rattle.run_core.proofs.Players.BrokenTurns.{turn_stops, turn_stops_at}
use Rattle.run_core.proofs.player.Player.go_on.Goals as goal

pub loop-ask-init : goal.loop-ask-init
loop-ask-init g c = record { so_far = not_yet c.args.self.now c.args.mount.now c.requires; queue = refl }

pub call-reply-requires : goal.call-reply-requires
call-reply-requires g c = (asks_next c.loop-ask.self.number c.loop-ask.mount (progress_of c.loop-ask.self.actor) c.in-Some.ask c.loop-ask.invariant.so_far.fit.safe (sym c.in-Some.is ∙ c.in_ok-ask.ensures.ask)).may

pub take-requires : goal.take-requires
take-requires g c = is_out c.loop-ask.self.number c.loop-ask.mount (progress_of c.loop-ask.self.actor) c.in-Some.ask (asks_next c.loop-ask.self.number c.loop-ask.mount (progress_of c.loop-ask.self.actor) c.in-Some.ask c.loop-ask.invariant.so_far.fit.safe (sym c.in-Some.is ∙ c.in_ok-ask.ensures.ask)) (progress_of c.next.new.self) c.in_ok-ask.ensures.goes_on

pub returns-in_err-ask-clause-broken : goal.returns-in_err-ask-clause-broken
returns-in_err-ask-clause-broken g c = on_err c.from_residual.result _ (
    turn_stops c.args.self.now c.loop-ask.self c.args.mount.now c.loop-ask.mount c.loop-ask.invariant.so_far)

pub returns-in_err-take-clause-broken : goal.returns-in_err-take-clause-broken
returns-in_err-take-clause-broken g c = on_err c.from_residual-in_err-take.result _ (
    turn_stops_at c.args.self.now c.loop-ask.self c.args.mount.now c.loop-ask.mount c.call-reply.new.mount c.in-Some.ask c.call-reply.result c.loop-ask.invariant.so_far (asks_next c.loop-ask.self.number c.loop-ask.mount (progress_of c.loop-ask.self.actor) c.in-Some.ask c.loop-ask.invariant.so_far.fit.safe (sym c.in-Some.is ∙ c.in_ok-ask.ensures.ask)) c.call-reply.ensures)

pub returns-in_err-put_ahead-clause-broken : goal.returns-in_err-put_ahead-clause-broken
returns-in_err-put_ahead-clause-broken g c = on_err c.from_residual-in_err-put_ahead.result _ (
    turn_stops c.args.self.now c.loop-ask.self c.args.mount.now c.loop-ask.mount c.loop-ask.invariant.so_far)

pub returns-then-not-free-clause-called : goal.returns-then-not-free-clause-called
returns-then-not-free-clause-called g c = λ is.
    turned c.args.self.now c.loop-ask.self _ c.args.mount.now c.loop-ask.mount c.call-reply.new.mount c.loop-ask.invariant.so_far
    (called c.loop-ask.self _ c.loop-ask.mount c.call-reply.new.mount c.in-Some.ask c.call-reply.result c.loop-ask.invariant.so_far.fit (asks_next c.loop-ask.self.number c.loop-ask.mount (progress_of c.loop-ask.self.actor) c.in-Some.ask c.loop-ask.invariant.so_far.fit.safe (sym c.in-Some.is ∙ c.in_ok-ask.ensures.ask)) (sym c.greets-free.ensures ∙ c.if-not-free.true) c.call-reply.ensures (not_refused c.call-reply.result (λ bad. c.in_ok-take.ensures.no_memory bad)) (c.in_ok-take.ensures.goes_on ∙ ap (λ z. with_reply z c.call-reply.result) c.in_ok-ask.ensures.goes_on) (record { number = refl; queue = refl; ahead = refl }))

pub loop-ask-preserved : goal.loop-ask-preserved
loop-ask-preserved g c = record {
  so_far = further c.args.self.now c.loop-ask.self _ c.args.mount.now c.loop-ask.mount c.call-reply.new.mount c.loop-ask.invariant.so_far
      (greeted c.loop-ask.self _ c.loop-ask.mount c.call-reply.new.mount c.in-Some.ask c.call-reply.result c.loop-ask.invariant.so_far.fit (asks_next c.loop-ask.self.number c.loop-ask.mount (progress_of c.loop-ask.self.actor) c.in-Some.ask c.loop-ask.invariant.so_far.fit.safe (sym c.in-Some.is ∙ c.in_ok-ask.ensures.ask)) (sym c.greets-free.ensures ∙ c.if-not-free.false) c.call-reply.ensures (not_refused c.call-reply.result (λ bad. c.in_ok-take.ensures.no_memory bad)) (c.in_ok-take.ensures.goes_on ∙ ap (λ z. with_reply z c.call-reply.result) c.in_ok-ask.ensures.goes_on) (record { number = refl; queue = refl; ahead = refl }));
  queue = c.loop-ask.invariant.queue;
}

pub returns-clause-ended : goal.returns-clause-ended
returns-clause-ended g c = λ is.
    further c.args.self.now c.loop-ask.self c.put_ahead.new.self c.args.mount.now c.loop-ask.mount c.loop-ask.mount c.loop-ask.invariant.so_far
    (no_further_call c.loop-ask.self c.put_ahead.new.self (progress_of c.next.new.self) c.loop-ask.mount c.loop-ask.invariant.so_far.fit (sym c.in_default.is ∙ c.in_ok-ask.ensures.ask) c.in_ok-ask.ensures.goes_on
    c.in_ok-put_ahead.ensures.progress c.in_ok-put_ahead.ensures.ahead c.in_ok-put_ahead.ensures.number c.in_ok-put_ahead.ensures.queue).comes

pub returns-clause-idle : goal.returns-clause-idle
returns-clause-idle g c = λ is.
    (no_further_call c.loop-ask.self c.put_ahead.new.self (progress_of c.next.new.self) c.loop-ask.mount c.loop-ask.invariant.so_far.fit (sym c.in_default.is ∙ c.in_ok-ask.ensures.ask) c.in_ok-ask.ensures.goes_on
    c.in_ok-put_ahead.ensures.progress c.in_ok-put_ahead.ensures.ahead c.in_ok-put_ahead.ensures.number c.in_ok-put_ahead.ensures.queue).idles
