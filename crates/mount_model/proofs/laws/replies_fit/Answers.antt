use Rattle.mount_model.proofs.Replying.{step_fits}
use Rattle.mount_model.proofs.laws.replies_fit.Goals as goal

pub returns : goal.returns
returns c = step_fits
