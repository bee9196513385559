use Rattle.mount_model.proofs.Lasting.{step_regular}
use Rattle.mount_model.proofs.laws.regular_lasts.Goals as goal

pub returns : goal.returns
returns c = step_regular
