use Rattle.std.proofs.Common.{◌≡◌, true, false, ap, sym, ◌∙◌, arith}
use Rattle.script_lang.specs.declared.line.Outcome.TheVariants.{Stopped}
use Rattle.actor_core.specs.declared.actor.State.TheVariants.{Working}
use Rattle.actor_core.specs.declared.doing.Doing.TheVariants.{Known}
use Rattle.actor_core.specs.Standings.{calls_left, state_left, state_progress}
use Rattle.actor_core.proofs.Carrying.{placed}
use Rattle.actor_core.proofs.Working.{stops_working, goes_with, call_out, some_left_at}
use Rattle.actor_core.proofs.actor.Actor.take_reply.Goals as goal

pub returns-then-is_due-clause-goes_on : goal.returns-then-is_due-clause-goes_on
returns-then-is_due-clause-goes_on c =
    let was = c.args.self.now in
    placed c.stop_here.new.self was.number (record was.kept { gone = true }) was.stop (Working (Known Stopped) false)
    c.stop_here.ensures.state c.stop_here.ensures.kept c.stop_here.ensures.number c.stop_here.ensures.stop
    ∙ stops_working was.number was.kept was.stop was.state c.args.reply c.requires.working c.requires.asked (sym c.is_due.ensures ∙ c.if-is_due.true)

pub returns-then-is_due-clause-left : goal.returns-then-is_due-clause-left
returns-then-is_due-clause-left c =
    let was = c.args.self.now in
    let none : calls_left c.stop_here.new.self ≡ 0 = ap state_left c.stop_here.ensures.state in
    let some = some_left_at was.state (call_out was.number was.kept was.stop was.state c.requires.working c.requires.asked) in
    omega (arith, none, some)

pub returns-clause-goes_on : goal.returns-clause-goes_on
returns-clause-goes_on c =
    let was = c.args.self.now in
    ap (λ stop. state_progress was.number was.kept stop c.work_taken.new.state) c.one_nearer-self.ensures
    ∙ goes_with was.number was.kept was.stop was.state c.work_taken.new.state c.args.reply c.requires.working c.requires.asked c.in_ok-work_taken.ensures.goes_on (sym c.is_due.ensures ∙ c.if-is_due.false)
