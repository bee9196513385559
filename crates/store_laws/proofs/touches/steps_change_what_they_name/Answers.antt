use Rattle.store_laws.proofs.Trees.Touching.{keeps_rooms}
use Rattle.store_laws.proofs.touches.steps_change_what_they_name.Goals as goal

pub returns : goal.returns
returns c = keeps_rooms
