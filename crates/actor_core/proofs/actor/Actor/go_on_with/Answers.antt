use Rattle.std.proofs.Common.{Result, ap, ◌∙◌, subst, false}
use Rattle.mount_model.specs.declared.stuck.Stuck.{Stuck}
use Rattle.index_reader.specs.declared.sharing.Share.{Share}
use Rattle.actor_core.specs.declared.actor.State.TheVariants.{Working}
use Rattle.actor_core.specs.declared.doing.Doing.TheVariants.{Gathering}
use Rattle.actor_core.specs.declared.purpose.Purpose.TheVariants.{Opens}
use Rattle.gather_flow.specs.Gathering.{gather_standing}
use Rattle.gather_flow.specs.Workers.{IsOutcomeOf}
use Rattle.actor_core.proofs.Carrying.{placed}
use Rattle.actor_core.proofs.Handings.{given_share}
use Rattle.actor_core.proofs.actor.Actor.go_on_with.Goals as goal

pub returns-in_ok-flow-in-Ok-clause-goes_on : goal.returns-in_ok-flow-in-Ok-clause-goes_on
returns-in_ok-flow-in-Ok-clause-goes_on c = λ results outcome.
    let me = c.args.self.now in
    let P : Result Share Stuck → Type 0 = λ given. IsOutcomeOf results given in
    placed c.set.new.self me.number me.kept me.stop (Working (Gathering c.in_ok-flow-in-Ok.flow (Opens 1)) false) c.set.ensures.state c.set.ensures.kept c.set.ensures.number c.set.ensures.stop
    ∙ given_share me.number me.kept me.stop c.args.listed results c.in-Ok.share c.in_ok-flow-in-Ok.flow.value (ap gather_standing c.in_ok-flow-in-Ok.ensures.ok ∙ c.in_ok-gathering-in-Ok.ensures.standing) (subst P c.in-Ok.is outcome)
