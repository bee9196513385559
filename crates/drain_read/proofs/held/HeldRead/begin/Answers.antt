use Rattle.std.proofs.Common.{ap, ◌∙◌}
use Rattle.mount_model.specs.Program.{followed_by}
use Rattle.mount_model.specs.FlowReplies.{Tries, on_ok}
use Rattle.drain_read.specs.declared.read.Contained.{Contained}
use Rattle.drain_read.specs.declared.read.Known.{Known}
use Rattle.drain_read.specs.Holding.{lists_settled}
use Rattle.drain_read.specs.Reading.{contained_program}
use Rattle.drain_read.proofs.held.HeldRead.begin.Goals as goal

pub returns-clause-goes_on : goal.returns-clause-goes_on
returns-clause-goes_on c =
    c.container_on.ensures.goes_on
    ∙ ap (λ (p : Tries Contained). followed_by p (on_ok (lists_settled c.args.room))) (c.in_ok-turn.ensures.goes_on ∙ ap (λ (k : Known). contained_program k) c.unknown.ensures)
