use Rattle.store_laws.proofs.Steps.NewRooms.{make_room_cases}
use Rattle.store_laws.proofs.changes.adds_one_room.Goals as goal

pub returns : goal.returns
returns c = make_room_cases
