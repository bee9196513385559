use Rattle.std.proofs.Common.{ap, ◌∙◌}
use Rattle.writer_flow.specs.WritingStages.{write_standing}
use Rattle.actor_core.specs.Endings.{stopped, wrote}
use Rattle.actor_core.specs.Work.{finishes}
use Rattle.actor_core.specs.Standings.{busy, doing_ready}
use Rattle.actor_core.proofs.OneMachine.{leads_on}
use Rattle.actor_core.proofs.machines.written_by.Goals as goal

pub returns-in-Writing : goal.returns-in-Writing
returns-in-Writing c = λ number kept stop.
    ap (λ doing. busy number (doing_ready kept stop doing)) c.in-Writing.is
    ∙ ap (busy number) (leads_on (write_standing c.in-Writing.flow) stop (λ left out. finishes (wrote kept c.in-Writing.at c.in-Writing.len out)) (finishes (stopped kept)) c.ended.result c.ended.ensures)
