use Rattle.std.proofs.Common.{ap, ◌∙◌, sym}
use Rattle.refresh_index.specs.RefreshStages.{refresh_standing}
use Rattle.actor_core.proofs.Carrying.{refreshing}
use Rattle.actor_core.proofs.actor.Actor.refresh.Goals as goal

pub returns-in_ok-flow-in-Some : goal.returns-in_ok-flow-in-Some
returns-in_ok-flow-in-Some c = record {
  goes = refreshing c.args.self.now.kept c.args.self.now.stop c.into_parts.result c.in-Some.reader c.args.self.now.kept.reader c.take.new.self (refresh_standing c.in_ok-flow-in-Some.flow.value)
      (ap refresh_standing c.in_ok-flow-in-Some.ensures.ok ∙ c.new-machine.ensures) c.into_parts.ensures.parts (sym c.take.ensures.value ∙ c.in-Some.is) c.take.ensures.after;
}
