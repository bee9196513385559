use Rattle.share_workers.proofs.Facts.{on_err}
use Rattle.std.proofs.Common.{sym, ap, ◌∙◌}
use Rattle.actor_core.specs.Progress.{with_reply}
use Rattle.actor_core.specs.Standings.{progress_of}
use Rattle.run_core.proofs.LoneActors.LoneSteps.{asks_next, is_out, not_near, nearer, no_line_left, carries}
use Rattle.run_core.proofs.LoneActors.LoneBreaks.{lone_stops, lone_stops_at}
use Rattle.share_workers.proofs.Facts.{not_refused}
use Rattle.run_core.proofs.lone_reader.LoneReader.carry.Goals as goal

pub loop-ask-init : goal.loop-ask-init
loop-ask-init g c = record { so_far = not_near c.args.self.now c.args.mount.now c.requires }

pub call_unowed-reply-requires-clause-unowed : goal.call_unowed-reply-requires-clause-unowed
call_unowed-reply-requires-clause-unowed g c = (asks_next (progress_of c.loop-ask.self.actor) c.in-Some.ask c.loop-ask.invariant.so_far.plain (sym c.in-Some.is ∙ c.in_ok-ask.ensures.ask)).owes

pub take-requires : goal.take-requires
take-requires g c = is_out (progress_of c.loop-ask.self.actor) c.in-Some.ask (asks_next (progress_of c.loop-ask.self.actor) c.in-Some.ask c.loop-ask.invariant.so_far.plain (sym c.in-Some.is ∙ c.in_ok-ask.ensures.ask)) (progress_of c.next.new.self) c.in_ok-ask.ensures.goes_on

pub returns-in_err-ask-clause-broken : goal.returns-in_err-ask-clause-broken
returns-in_err-ask-clause-broken g c = on_err c.from_residual.result _ (
    lone_stops c.args.self.now c.loop-ask.self c.args.mount.now c.loop-ask.mount c.loop-ask.invariant.so_far)

pub returns-in_err-take-clause-broken : goal.returns-in_err-take-clause-broken
returns-in_err-take-clause-broken g c = on_err c.from_residual-in_err-take.result _ (
    lone_stops_at c.args.self.now c.loop-ask.self c.args.mount.now c.loop-ask.mount c.call_unowed-reply.new.mount c.in-Some.ask c.call_unowed-reply.result c.loop-ask.invariant.so_far (asks_next (progress_of c.loop-ask.self.actor) c.in-Some.ask c.loop-ask.invariant.so_far.plain (sym c.in-Some.is ∙ c.in_ok-ask.ensures.ask)) c.call_unowed-reply.ensures)

pub loop-ask-preserved : goal.loop-ask-preserved
loop-ask-preserved g c = record {
  so_far = nearer c.args.self.now c.loop-ask.self (record { actor = c.take.new.self }) c.args.mount.now c.loop-ask.mount c.call_unowed-reply.new.mount c.in-Some.ask c.call_unowed-reply.result c.loop-ask.invariant.so_far (asks_next (progress_of c.loop-ask.self.actor) c.in-Some.ask c.loop-ask.invariant.so_far.plain (sym c.in-Some.is ∙ c.in_ok-ask.ensures.ask)) c.call_unowed-reply.ensures (not_refused c.call_unowed-reply.result (λ bad. c.in_ok-take.ensures.no_memory bad))
      (c.in_ok-take.ensures.goes_on ∙ ap (λ z. with_reply z c.call_unowed-reply.result) c.in_ok-ask.ensures.goes_on);
}

pub unreachable-requires : goal.unreachable-requires
unreachable-requires g c =
    no_line_left (progress_of c.loop-ask.self.actor) (progress_of c.next.new.self) c.line.result c.loop-ask.invariant.so_far.plain (sym c.in_default.is ∙ c.in_ok-ask.ensures.ask) c.in_ok-ask.ensures.goes_on c.line.ensures.line c.in-None.is

pub returns-clause-carries : goal.returns-clause-carries
returns-clause-carries g c =
    carries c.args.self.now c.loop-ask.self _ c.args.mount.now c.loop-ask.mount (progress_of c.next.new.self) c.in-Some-line.line c.loop-ask.invariant.so_far (sym c.in_default.is ∙ c.in_ok-ask.ensures.ask) c.in_ok-ask.ensures.goes_on
    (sym c.in-Some-line.is ∙ c.line.ensures.line) c.line.ensures.taken
