use Rattle.store_laws.proofs.Looks.Answering.{rooms_tell}
use Rattle.store_laws.proofs.answers.rooms_tell.Goals as goal

pub returns : goal.returns
returns c = rooms_tell
