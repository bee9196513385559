use Rattle.mount_model.proofs.Replying.{step_causes}
use Rattle.mount_model.proofs.laws.faults_have_causes.Goals as goal

pub returns : goal.returns
returns c = step_causes
