use Rattle.std.proofs.Common.{◌≡◌, ap, ◌∙◌}
use Rattle.std.proofs.lemmas.Result.{IfOk-weaker}
use Rattle.mount_model.specs.FlowReplies.{Tries}
use Rattle.drain_read.specs.declared.read.Contained.{Contained}
use Rattle.drain_read.specs.declared.read.Known.{Known}
use Rattle.drain_read.specs.Reading.{contained_program}
use Rattle.drain_read.specs.Stages.{container_turn}
use Rattle.drain_copy.specs.declared.stages.Turn.{Turn}
use Rattle.drain_copy.specs.Asking.{at_source}
use Rattle.drain_copy.specs.Draining.{gathers, if_gathered}
use Rattle.drain_copy.specs.Stages.{turn_program}
use Rattle.drain_copy.proofs.gathering.gather.Goals as goal

pub returns-in-Ok-begin-clause-goes_on : goal.returns-in-Ok-begin-clause-goes_on
returns-in-Ok-begin-clause-goes_on c =
    IfOk-weaker c.gather_on.result
    (λ (turn : Turn). turn_program turn ≡ at_source (container_turn c.in-Ok-begin.turn) (if_gathered c.args.name c.args.held))
    (λ (turn : Turn). turn_program turn ≡ gathers c.args.name c.args.held c.args.room)
    (λ turn h. h ∙ ap (λ (p : Tries Contained). at_source p (if_gathered c.args.name c.args.held)) (c.in-Ok-begin.ensures.goes_on ∙ ap (λ (k : Known). contained_program k) c.in-Ok.ensures))
    c.gather_on.ensures.goes_on
