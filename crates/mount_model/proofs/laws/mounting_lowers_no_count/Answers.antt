use Rattle.mount_model.proofs.Replying.{mounting_rises}
use Rattle.mount_model.proofs.laws.mounting_lowers_no_count.Goals as goal

pub returns : goal.returns
returns c = mounting_rises
