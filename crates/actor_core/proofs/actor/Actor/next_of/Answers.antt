use Rattle.std.proofs.Common.{Option, subst}
use Rattle.std.specs.Prelude.{◌≡◌, IfOk}
use Rattle.mount_model.specs.declared.call.Call.{Call}
use Rattle.actor_core.specs.Progress.{Progress, ask_of}
use Rattle.actor_core.specs.Machines.{WorkGoesOn}
use Rattle.actor_core.proofs.Working.{ends_at}
use Rattle.actor_core.proofs.actor.Actor.next_of.Goals as goal

pub returns-in-None-clause-ask : goal.returns-in-None-clause-ask
returns-in-None-clause-ask c =
    let was = c.args.self.now in
    let after = c.one_asked.new.state in
    let P : Option Call → Type 0 = λ call. WorkGoesOn was.state call after in
    let Q : Progress → Type 0 = λ p. IfOk c.end.result (λ ask. ask ≡ ask_of p) in
    subst Q (ends_at was.number was.kept was.stop was.state after c.requires.one c.requires.ready (subst P c.in-None.is c.in_ok-call.ensures.goes_on)).1 c.end.ensures.ask
