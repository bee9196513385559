use Rattle.std.proofs.Common.{◌≡◌, ap, sym, ◌∙◌, subst}
use Rattle.std.specs.Prelude.{Result}
use Rattle.mount_model.specs.declared.stuck.Stuck.{Stuck}
use Rattle.mount_model.specs.Standing.{Standing, ready}
use Rattle.mount_model.specs.Composed.{then_on}
use Rattle.mount_model.specs.Program.{done}
use Rattle.mount_model.specs.declared.call.Call.{Call}
use Rattle.mount_model.specs.declared.reply.Reply.{Reply}
use Rattle.mount_model.specs.FlowReplies.{on_ok}
use Rattle.gather_flow.specs.declared.all_read.AllRead.{AllRead}
use Rattle.gather_flow.specs.declared.gathering.Called.{Called}
use Rattle.gather_flow.specs.declared.gathering.Called.TheVariants.{Asks}
use Rattle.gather_flow.specs.Called.{IsCalled}
use Rattle.gather_flow.specs.Gathering.{gather_rest, gather_standing}
use Rattle.opening_flow.specs.declared.parts.Part.{Part}
use Rattle.opening_flow.specs.Opening.{reads_as}
use Rattle.opening_flow.specs.Parts.{parted}
use Rattle.std.proofs.lemmas.Result.{IfOk-weaker}
use Rattle.mount_model.proofs.Flows.Composing.{calls_awaits, calls_then}
use Rattle.opening_flow.proofs.parts.gather_on.Goals as goal

pub returns-in-Asks-clause-goes_on : goal.returns-in-Asks-clause-goes_on
returns-in-Asks-clause-goes_on c =
    let P : Called → Type 0 = λ k. IsCalled c.args.gathering k in
    let told : IsCalled c.args.gathering (Asks c.in-Asks.call c.in-Asks.asking) = subst P c.in-Asks.is c.in_ok-called.ensures in
    calls_then (on_ok reads_as) (gather_standing c.args.gathering) c.in-Asks.call (gather_rest c.in-Asks.asking) c.requires told.0 told.1

pub returns-in-Asks-clause-underway : goal.returns-in-Asks-clause-underway
returns-in-Asks-clause-underway c =
    let P : Called → Type 0 = λ k. IsCalled c.args.gathering k in
    let told : IsCalled c.args.gathering (Asks c.in-Asks.call c.in-Asks.asking) = subst P c.in-Asks.is c.in_ok-called.ensures in
    (calls_awaits (gather_standing c.args.gathering) c.in-Asks.call (gather_rest c.in-Asks.asking) c.requires told.0 told.1, told.2)

pub returns-in-Over-clause-goes_on : goal.returns-in-Over-clause-goes_on
returns-in-Over-clause-goes_on c =
    let P : Called → Type 0 = λ k. IsCalled c.args.gathering k in
    let ended : gather_standing c.args.gathering ≡ ready (done c.in-Over.made) = subst P c.in-Over.is c.in_ok-called.ensures in
    IfOk-weaker c.after_gathering.result
    (λ (part : Part). parted part ≡ ready ((on_ok reads_as) c.in-Over.made))
    (λ (part : Part). parted part ≡ then_on (gather_standing c.args.gathering) (on_ok reads_as))
    (λ part h. h ∙ sym (ap (λ (s : Standing Call Reply (Result AllRead Stuck)). then_on s (on_ok reads_as)) ended))
    c.after_gathering.ensures.goes_on
