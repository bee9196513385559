use Rattle.actor_core.proofs.Working.{over_so, written_at}
use Rattle.actor_core.proofs.actor.Actor.written.Goals as goal

pub returns-in-Working : goal.returns-in-Working
returns-in-Working c =
    let was = c.args.self.now in
    written_at was.number was.kept was.stop was.state c.in-Working.doing c.written_by.result c.written_by.ensures
    (over_so was.number was.kept was.stop was.state c.in-Working.doing _ c.in-Working.is c.requires)
