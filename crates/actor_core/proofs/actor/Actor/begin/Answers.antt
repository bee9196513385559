use Rattle.std.proofs.Common.{◌∙◌, false}
use Rattle.actor_core.specs.declared.actor.State.TheVariants.{Working}
use Rattle.actor_core.specs.Standings.{doing_ready, progress_of}
use Rattle.actor_core.proofs.Carrying.{begins, idle_so, placed}
use Rattle.actor_core.proofs.actor.Actor.begin.Goals as goal

pub returns-then-greeted : goal.returns-then-greeted
returns-then-greeted c =
    let was = c.args.self.now in
    let kept = c.start.new.self.kept in
    let stop = c.start.new.self.stop in
    let doing = c.in_ok-doing.doing in
    placed c.set.new.self c.args.number kept stop (Working doing false) c.set.ensures.state c.set.ensures.kept c.set.ensures.number c.set.ensures.stop
    ∙ begins (progress_of was) was.kept c.args.number c.args.statement (doing_ready kept stop doing) (idle_so was.number was.kept was.stop was.state c.requires.idle) c.if-greeted.true c.in_ok-doing.ensures.goes
