use Rattle.mount_model.proofs.Beginning.{mounted_regular}
use Rattle.mount_model.proofs.laws.mounting_is_regular.Goals as goal

pub returns : goal.returns
returns c = mounted_regular
