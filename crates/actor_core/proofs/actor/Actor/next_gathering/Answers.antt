use Rattle.std.proofs.Common.{Some, ap, ◌∙◌, true}
use Rattle.actor_core.specs.declared.actor.State.TheVariants.{Working}
use Rattle.actor_core.specs.declared.doing.Doing.TheVariants.{Gathering}
use Rattle.actor_core.specs.Stopping.{stoppable}
use Rattle.actor_core.proofs.Carrying.{placed}
use Rattle.actor_core.proofs.Gatherings.{gather_asks, gather_out, asks_boxed}
use Rattle.actor_core.proofs.actor.Actor.next_gathering.Goals as goal

pub returns-in_ok-flow-in-Asks-clause-ask : goal.returns-in_ok-flow-in-Asks-clause-ask
returns-in_ok-flow-in-Asks-clause-ask c =
    let is = asks_boxed c.args.flow.value c.into_inner.result c.in_ok-call.field-0 c.in-Asks.call c.in-Asks.asking c.in_ok-flow-in-Asks.flow.value
    c.into_inner.ensures c.in-Asks.is c.in_ok-call.ensures c.in_ok-flow-in-Asks.ensures.ok in
    ap Some (c.stoppable.ensures ∙ ap (λ stop. stoppable stop c.in-Asks.call) c.set.ensures.stop)
    ∙ gather_asks c.args.self.now.number c.args.self.now.kept c.args.self.now.stop c.args.flow.value c.in_ok-flow-in-Asks.flow.value c.args.purpose c.in-Asks.call is

pub returns-in_ok-flow-in-Asks-clause-goes_on : goal.returns-in_ok-flow-in-Asks-clause-goes_on
returns-in_ok-flow-in-Asks-clause-goes_on c =
    let is = asks_boxed c.args.flow.value c.into_inner.result c.in_ok-call.field-0 c.in-Asks.call c.in-Asks.asking c.in_ok-flow-in-Asks.flow.value
    c.into_inner.ensures c.in-Asks.is c.in_ok-call.ensures c.in_ok-flow-in-Asks.ensures.ok in
    placed c.set.new.self c.args.self.now.number c.args.self.now.kept c.args.self.now.stop (Working (Gathering c.in_ok-flow-in-Asks.flow c.args.purpose) true)
    c.set.ensures.state c.set.ensures.kept c.set.ensures.number c.set.ensures.stop
    ∙ gather_out c.args.self.now.number c.args.self.now.kept c.args.self.now.stop c.args.flow.value c.in_ok-flow-in-Asks.flow.value c.args.purpose c.in-Asks.call is
