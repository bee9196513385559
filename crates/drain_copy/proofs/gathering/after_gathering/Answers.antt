use Rattle.std.proofs.Common.{◌≡◌, ap, ◌∙◌}
use Rattle.std.proofs.lemmas.Result.{IfOk-weaker}
use Rattle.mount_model.specs.FlowReplies.{Tries}
use Rattle.drain_read.specs.Stages.{container_turn}
use Rattle.drain_read.specs.declared.read.Contained.{Contained}
use Rattle.drain_copy.specs.declared.stages.SourceStage.TheVariants.{Gathering}
use Rattle.drain_copy.specs.declared.stages.Turn.{Turn}
use Rattle.drain_copy.specs.Asking.{at_source}
use Rattle.drain_copy.specs.Draining.{if_gathered}
use Rattle.drain_copy.specs.Stages.{source_rest, turn_program}
use Rattle.drain_copy.proofs.gathering.after_gathering.Goals as goal

pub returns-in-Ok-clause-goes_on : goal.returns-in-Ok-clause-goes_on
returns-in-Ok-clause-goes_on c =
    IfOk-weaker c.gather_on.result
    (λ (turn : Turn). turn_program turn ≡ at_source (container_turn c.in-Ok.turn) (if_gathered c.args.name c.args.held))
    (λ (turn : Turn). turn_program turn ≡ source_rest (Gathering c.args.name c.args.held c.args.read) c.args.reply)
    (λ turn h. h ∙ ap (λ (p : Tries Contained). at_source p (if_gathered c.args.name c.args.held)) c.in-Ok.ensures.goes_on)
    c.gather_on.ensures.goes_on
