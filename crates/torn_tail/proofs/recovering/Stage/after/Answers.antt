use Rattle.std.proofs.Common.{◌≡◌, subst, sym}
use Rattle.std.specs.Prelude.{Result}
use Rattle.mount_model.specs.Standing.{ready, rest_of, replied}
use Rattle.mount_model.specs.declared.stuck.Stuck.{Stuck}
use Rattle.mount_model.specs.FlowReplies.{Tries, on_ok}
use Rattle.torn_tail.specs.declared.fates.Fate.{Fate}
use Rattle.torn_tail.specs.declared.recovering.Recovered.{Recovered}
use Rattle.torn_tail.specs.declared.recovering.Stage.{Stage}
use Rattle.torn_tail.specs.declared.recovering.Underway.{Underway}
use Rattle.torn_tail.specs.Recovering.{recovers, noted}
use Rattle.torn_tail.specs.Stages.{recovering}
use Rattle.torn_tail.specs.Steps.{after_program}
use Rattle.torn_tail.proofs.StageLemmas.{taken_later}
use Rattle.torn_tail.proofs.recovering.Stage.after.Goals as goal

pub returns-in_ok-next-in-Underway-clause-goes_on : goal.returns-in_ok-next-in-Underway-clause-goes_on
returns-in_ok-next-in-Underway-clause-goes_on c =
    let u : Underway = c.in-Underway.underway in
    let next : Tries Recovered = recovering c.in_ok-next-in-Underway.next in
    let k : Result Fate Stuck → Tries Recovered = on_ok (λ fate. recovers u.room u.rest (noted u.entry fate u.sofar)) in
    let P : Stage → Type 0 = λ stage. next ≡ replied (rest_of (ready (recovering stage))) c.args.reply in
    subst P (sym c.in-Underway.is)
    (taken_later u.room u.entry u.step k c.args.reply (after_program u.room u.entry c.after-after.result) next c.after-after.ensures.goes_on c.in_ok-next-in-Underway.ensures.goes_on)
