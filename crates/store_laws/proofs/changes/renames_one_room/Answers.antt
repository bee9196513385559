use Rattle.store_laws.proofs.Steps.NewRooms.{rename_room_cases}
use Rattle.store_laws.proofs.changes.renames_one_room.Goals as goal

pub returns : goal.returns
returns c = rename_room_cases
