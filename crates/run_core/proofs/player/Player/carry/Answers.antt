use Rattle.share_workers.proofs.Facts.{on_err}
use Rattle.std.proofs.Common.{refl, sym, ap, ◌∙◌}
use Rattle.actor_core.specs.Progress.{with_reply}
use Rattle.actor_core.specs.Standings.{progress_of}
use Rattle.share_workers.proofs.Facts.{not_refused}
use Rattle.run_core.proofs.Players.Works.{asks_next, is_out, not_idle, no_line_left}
use Rattle.run_core.proofs.Players.Turning.{after_reply}
use Rattle.run_core.proofs.Players.Approaching.{not_near, nearer, line_passes}
use Rattle.run_core.proofs.Players.BrokenTurns.{pass_stops, pass_stops_at}
use Rattle.run_core.proofs.player.Player.carry.Goals as goal

pub loop-ask-init : goal.loop-ask-init
loop-ask-init g c = record { so_far = not_near c.args.self.now c.args.mount.now c.requires.fit; busy = c.requires.busy }

pub call-reply-requires : goal.call-reply-requires
call-reply-requires g c = (asks_next c.loop-ask.self.number c.loop-ask.mount (progress_of c.loop-ask.self.actor) c.in-Some.ask c.loop-ask.invariant.so_far.fit.safe (sym c.in-Some.is ∙ c.in_ok-ask.ensures.ask)).may

pub take-requires : goal.take-requires
take-requires g c = is_out c.loop-ask.self.number c.loop-ask.mount (progress_of c.loop-ask.self.actor) c.in-Some.ask (asks_next c.loop-ask.self.number c.loop-ask.mount (progress_of c.loop-ask.self.actor) c.in-Some.ask c.loop-ask.invariant.so_far.fit.safe (sym c.in-Some.is ∙ c.in_ok-ask.ensures.ask)) (progress_of c.next.new.self) c.in_ok-ask.ensures.goes_on

pub returns-in_err-ask-clause-broken : goal.returns-in_err-ask-clause-broken
returns-in_err-ask-clause-broken g c = on_err c.from_residual.result _ (
    pass_stops c.args.self.now c.loop-ask.self c.args.mount.now c.loop-ask.mount c.loop-ask.invariant.so_far c.loop-ask.invariant.busy c.requires.none_ahead)

pub returns-in_err-take-clause-broken : goal.returns-in_err-take-clause-broken
returns-in_err-take-clause-broken g c = on_err c.from_residual-in_err-take.result _ (
    pass_stops_at c.args.self.now c.loop-ask.self c.args.mount.now c.loop-ask.mount c.call-reply.new.mount c.in-Some.ask c.call-reply.result c.loop-ask.invariant.so_far (asks_next c.loop-ask.self.number c.loop-ask.mount (progress_of c.loop-ask.self.actor) c.in-Some.ask c.loop-ask.invariant.so_far.fit.safe (sym c.in-Some.is ∙ c.in_ok-ask.ensures.ask)) c.call-reply.ensures c.requires.none_ahead)

pub loop-ask-preserved : goal.loop-ask-preserved
loop-ask-preserved g c = record {
  so_far = nearer c.args.self.now c.loop-ask.self _ c.args.mount.now c.loop-ask.mount c.call-reply.new.mount c.in-Some.ask c.call-reply.result c.loop-ask.invariant.so_far (asks_next c.loop-ask.self.number c.loop-ask.mount (progress_of c.loop-ask.self.actor) c.in-Some.ask c.loop-ask.invariant.so_far.fit.safe (sym c.in-Some.is ∙ c.in_ok-ask.ensures.ask)) c.call-reply.ensures (not_refused c.call-reply.result (λ bad. c.in_ok-take.ensures.no_memory bad))
      (c.in_ok-take.ensures.goes_on ∙ ap (λ z. with_reply z c.call-reply.result) c.in_ok-ask.ensures.goes_on) (record { number = refl; queue = refl; ahead = refl });
  busy = not_idle (progress_of c.take.new.self) (asks_next c.loop-ask.self.number c.loop-ask.mount (progress_of c.loop-ask.self.actor) c.in-Some.ask c.loop-ask.invariant.so_far.fit.safe (sym c.in-Some.is ∙ c.in_ok-ask.ensures.ask)).number ((asks_next c.loop-ask.self.number c.loop-ask.mount (progress_of c.loop-ask.self.actor) c.in-Some.ask c.loop-ask.invariant.so_far.fit.safe (sym c.in-Some.is ∙ c.in_ok-ask.ensures.ask)).next c.call-reply.result) (after_reply c.loop-ask.self.number c.loop-ask.mount (progress_of c.loop-ask.self.actor) c.in-Some.ask (asks_next c.loop-ask.self.number c.loop-ask.mount (progress_of c.loop-ask.self.actor) c.in-Some.ask c.loop-ask.invariant.so_far.fit.safe (sym c.in-Some.is ∙ c.in_ok-ask.ensures.ask)) (progress_of c.take.new.self) c.call-reply.result (c.in_ok-take.ensures.goes_on ∙ ap (λ z. with_reply z c.call-reply.result) c.in_ok-ask.ensures.goes_on));
}

pub unreachable-requires : goal.unreachable-requires
unreachable-requires g c =
    no_line_left c.loop-ask.self.number c.loop-ask.mount (progress_of c.loop-ask.self.actor) (progress_of c.next.new.self) c.line.result c.loop-ask.invariant.so_far.fit.safe c.loop-ask.invariant.busy (sym c.in_default.is ∙ c.in_ok-ask.ensures.ask) c.in_ok-ask.ensures.goes_on c.line.ensures.line c.in-None.is

pub returns-clause-passes : goal.returns-clause-passes
returns-clause-passes g c =
    line_passes c.args.self.now c.loop-ask.self _ (progress_of c.next.new.self) c.args.mount.now c.loop-ask.mount c.in-Some-line.line c.loop-ask.invariant.so_far c.loop-ask.invariant.busy (sym c.in_default.is ∙ c.in_ok-ask.ensures.ask) c.in_ok-ask.ensures.goes_on
    (sym c.in-Some-line.is ∙ c.line.ensures.line) c.line.ensures.taken c.requires.none_ahead (record { number = refl; queue = refl; ahead = refl })
