use Rattle.std.proofs.Common.{sym, ap, ◌∙◌}
use Rattle.actor_core.specs.Progress.{line_taken, waiting_line}
use Rattle.actor_core.specs.Standings.{state_progress}
use Rattle.actor_core.proofs.Carrying.{placed}
use Rattle.actor_core.proofs.NoLine.{no_line, none_taken}
use Rattle.actor_core.proofs.actor.Actor.line.Goals as goal

pub returns-in_default-clause-line : goal.returns-in_default-clause-line
returns-in_default-clause-line c =
    sym (ap (λ state. waiting_line (state_progress c.args.self.now.number c.args.self.now.kept c.args.self.now.stop state)) (sym c.state_taken.ensures.state)
    ∙ no_line c.args.self.now.number c.args.self.now.kept c.args.self.now.stop c.state_taken.result c.in_default.not-Told)

pub returns-in_default-clause-taken : goal.returns-in_default-clause-taken
returns-in_default-clause-taken c =
    placed c.set.new.self c.args.self.now.number c.args.self.now.kept c.args.self.now.stop c.state_taken.result
    c.set.ensures.state (c.set.ensures.kept ∙ c.state_taken.ensures.kept) (c.set.ensures.number ∙ c.state_taken.ensures.number) (c.set.ensures.stop ∙ c.state_taken.ensures.stop)
    ∙ sym (none_taken c.args.self.now.number c.args.self.now.kept c.args.self.now.stop c.state_taken.result c.in_default.not-Told)
    ∙ ap (λ state. line_taken (state_progress c.args.self.now.number c.args.self.now.kept c.args.self.now.stop state)) c.state_taken.ensures.state
