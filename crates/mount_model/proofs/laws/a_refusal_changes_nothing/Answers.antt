use Rattle.mount_model.proofs.Idle.{step_idle}
use Rattle.mount_model.proofs.laws.a_refusal_changes_nothing.Goals as goal

pub returns : goal.returns
returns c = step_idle
