use Rattle.std.proofs.Common.{◌≡◌, ap, sym, ◌∙◌}
use Rattle.std.specs.Prelude.{Result, Ok}
use Rattle.std.proofs.lemmas.Result.{IfOk-weaker}
use Rattle.drain_copy.specs.declared.outcome.DrainStuck.{DrainStuck}
use Rattle.drain_copy.specs.declared.stages.Turn.{Turn}
use Rattle.drain_copy.specs.Stages.{making_next, making_rest, making_told, turn_program}
use Rattle.drain_copy.specs.Telling.{on_good}
use Rattle.drain_copy.proofs.copying.after_making.Goals as goal

pub returns-in-Ok-clause-goes_on : goal.returns-in-Ok-clause-goes_on
returns-in-Ok-clause-goes_on c =
    let good : ◌≡◌ {A = Result (Unit {0}) DrainStuck} (Ok tt) (making_told c.args.making c.args.work.copying.due c.args.told) = sym c.in-Ok.is ∙ c.has_made-made.ensures in
    IfOk-weaker c.made_on.result
    (λ (turn : Turn). turn_program turn ≡ making_next c.args.making c.args.work)
    (λ (turn : Turn). turn_program turn ≡ making_rest c.args.making c.args.work c.args.told)
    (λ turn h. h ∙ ap (λ (r : Result (Unit {0}) DrainStuck). on_good (λ made. making_next c.args.making c.args.work) r) good)
    c.made_on.ensures.goes_on
