use Rattle.mount_model.proofs.Places.{step_place}
use Rattle.mount_model.proofs.laws.place_lasts.Goals as goal

pub returns : goal.returns
returns c = step_place
