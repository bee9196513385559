use Rattle.std.proofs.Common.{sym, ◌∙◌, true}
use Rattle.attr_flow.specs.Stages.{attr_standing}
use Rattle.actor_core.specs.declared.doing.Doing.TheVariants.{Telling}
use Rattle.actor_core.specs.declared.actor.State.TheVariants.{Working}
use Rattle.actor_core.specs.Endings.{stopped}
use Rattle.actor_core.specs.Telling.{if_asked}
use Rattle.actor_core.specs.Work.{finishes}
use Rattle.actor_core.proofs.Carrying.{asks_so, is_out, placed}
use Rattle.actor_core.proofs.actor.Actor.next_telling.Goals as goal

pub returns-in-Some-clause-ask : goal.returns-in-Some-clause-ask
returns-in-Some-clause-ask c =
    asks_so c.args.self.now.number (attr_standing c.args.flow) (attr_standing c.in_ok-next.next) c.args.self.now.stop (if_asked c.args.self.now.kept) (finishes (stopped c.args.self.now.kept)) c.in-Some.ask
    c.requires.ready (sym c.in-Some.is ∙ c.in_ok-next.ensures.ask)

pub returns-in-Some-clause-goes_on : goal.returns-in-Some-clause-goes_on
returns-in-Some-clause-goes_on c =
    placed c.set.new.self c.args.self.now.number c.args.self.now.kept c.args.self.now.stop (Working (Telling c.in_ok-next.next) true)
    c.set.ensures.state c.set.ensures.kept c.set.ensures.number c.set.ensures.stop
    ∙ is_out c.args.self.now.number (attr_standing c.args.flow) (attr_standing c.in_ok-next.next) c.args.self.now.stop (if_asked c.args.self.now.kept) (finishes (stopped c.args.self.now.kept)) c.in-Some.ask
    c.requires.ready (sym c.in-Some.is ∙ c.in_ok-next.ensures.ask) c.in_ok-next.ensures.rest
