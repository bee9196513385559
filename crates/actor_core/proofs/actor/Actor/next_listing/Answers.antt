use Rattle.std.proofs.Common.{◌≡◌, [], Option, sym, ap, ◌∙◌, subst, true}
use Rattle.std.specs.Prelude.{IfOk, OnOk}
use Rattle.mount_model.specs.Standing.{ready}
use Rattle.mount_model.specs.declared.call.Ask.{Ask}
use Rattle.index_reader.specs.OpenStages.{open_standing}
use Rattle.actor_core.specs.declared.doing.Doing.TheVariants.{Listing}
use Rattle.actor_core.specs.declared.actor.State.TheVariants.{Working}
use Rattle.actor_core.specs.Endings.{stopped}
use Rattle.actor_core.specs.Purposes.{workers_of, if_listed_for}
use Rattle.gather_flow.specs.Gathering.{gather_standing, shares_from}
use Rattle.actor_core.specs.Progress.{Progress}
use Rattle.actor_core.specs.Standings.{progress_of}
use Rattle.actor_core.specs.Work.{finishes}
use Rattle.actor_core.proofs.Carrying.{asks_so, is_out, placed}
use Rattle.actor_core.proofs.Gatherings.{listed_asks, listed_given}
use Rattle.actor_core.proofs.actor.Actor.next_listing.Goals as goal

pub returns-in-Some-clause-ask : goal.returns-in-Some-clause-ask
returns-in-Some-clause-ask c =
    asks_so c.args.self.now.number (open_standing c.args.flow) (open_standing c.in_ok-next.next) c.args.self.now.stop (if_listed_for c.args.purpose c.args.self.now.kept) (finishes (stopped c.args.self.now.kept)) c.in-Some.ask
    c.requires.ready (sym c.in-Some.is ∙ c.in_ok-next.ensures.ask)

pub returns-in-Some-clause-goes_on : goal.returns-in-Some-clause-goes_on
returns-in-Some-clause-goes_on c =
    placed c.set.new.self c.args.self.now.number c.args.self.now.kept c.args.self.now.stop (Working (Listing c.in_ok-next.next c.args.purpose) true)
    c.set.ensures.state c.set.ensures.kept c.set.ensures.number c.set.ensures.stop
    ∙ is_out c.args.self.now.number (open_standing c.args.flow) (open_standing c.in_ok-next.next) c.args.self.now.stop (if_listed_for c.args.purpose c.args.self.now.kept) (finishes (stopped c.args.self.now.kept)) c.in-Some.ask
    c.requires.ready (sym c.in-Some.is ∙ c.in_ok-next.ensures.ask) c.in_ok-next.ensures.rest

pub returns-in_ok-flow-in-Ok-clause-ask : goal.returns-in_ok-flow-in-Ok-clause-ask
returns-in_ok-flow-in-Ok-clause-ask c =
    let begins : gather_standing c.in_ok-flow-in-Ok.flow.value ≡ ready (shares_from (workers_of c.args.purpose) c.in-Ok.listing 0 []) =
    ap gather_standing c.in_ok-flow-in-Ok.ensures.ok ∙ c.in_ok-gathering-in-Ok.ensures.standing ∙ (λ i. ready (shares_from (c.workers.ensures i) (c.of.ensures i) 0 [])) in
    let P : Option Ask → Type 0 = λ next. IfOk c.next_gathering.result (λ ask. ask ≡ next) in
    subst P (listed_asks c.args.self.now.number c.args.self.now.kept c.args.self.now.stop c.args.purpose (open_standing c.args.flow) (open_standing c.in_ok-next.next) c.in-Ok.listing c.in_ok-flow-in-Ok.flow.value
    c.requires.ready (sym c.in_default.is ∙ c.in_ok-next.ensures.ask) c.in_ok-next.ensures.rest c.in-Ok.ensures.is begins) c.next_gathering.ensures.ask

pub returns-in_ok-flow-in-Ok-clause-goes_on : goal.returns-in_ok-flow-in-Ok-clause-goes_on
returns-in_ok-flow-in-Ok-clause-goes_on c =
    let begins : gather_standing c.in_ok-flow-in-Ok.flow.value ≡ ready (shares_from (workers_of c.args.purpose) c.in-Ok.listing 0 []) =
    ap gather_standing c.in_ok-flow-in-Ok.ensures.ok ∙ c.in_ok-gathering-in-Ok.ensures.standing ∙ (λ i. ready (shares_from (c.workers.ensures i) (c.of.ensures i) 0 [])) in
    let P : Progress → Type 0 = λ p. OnOk c.next_gathering.result (progress_of c.next_gathering.new.self ≡ p) in
    subst P (listed_given c.args.self.now.number c.args.self.now.kept c.args.self.now.stop c.args.purpose (open_standing c.args.flow) (open_standing c.in_ok-next.next) c.in-Ok.listing c.in_ok-flow-in-Ok.flow.value
    c.requires.ready (sym c.in_default.is ∙ c.in_ok-next.ensures.ask) c.in_ok-next.ensures.rest c.in-Ok.ensures.is begins) c.next_gathering.ensures.goes_on
