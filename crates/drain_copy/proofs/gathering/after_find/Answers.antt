use Rattle.std.proofs.Common.{◌≡◌, ℕ, ap, ◌∙◌}
use Rattle.std.specs.Prelude.{Result, Ok}
use Rattle.std.proofs.lemmas.Result.{IfOk-weaker}
use Rattle.drain_copy.specs.declared.outcome.DrainStuck.{DrainStuck}
use Rattle.drain_copy.specs.declared.stages.SourceStage.TheVariants.{Finding}
use Rattle.drain_copy.specs.declared.stages.Turn.{Turn}
use Rattle.drain_copy.specs.Draining.{gathers}
use Rattle.drain_copy.specs.Stages.{source_rest, turn_program}
use Rattle.drain_copy.specs.Telling.{found_room, on_good}
use Rattle.drain_copy.proofs.gathering.after_find.Goals as goal

pub returns-in-Ok-clause-goes_on : goal.returns-in-Ok-clause-goes_on
returns-in-Ok-clause-goes_on c =
    let found : ◌≡◌ {A = Result ℕ DrainStuck} (Ok c.in-Ok.room) (found_room c.args.reply) = cc in
    IfOk-weaker c.gather.result
    (λ (turn : Turn). turn_program turn ≡ gathers c.args.name c.args.held c.in-Ok.room)
    (λ (turn : Turn). turn_program turn ≡ source_rest (Finding c.args.name c.args.held) c.args.reply)
    (λ turn h. h ∙ ap (λ (r : Result ℕ DrainStuck). on_good (gathers c.args.name c.args.held) r) found)
    c.gather.ensures.goes_on
