use Rattle.std.proofs.Common.{ap, refl, rules}
use Rattle.store_api.specs.Step.{step_of, rooms, find_room}
use Rattle.store_folder.proofs.Ending.{ends_step, rooms_told, room_found}
use Rattle.store_folder.proofs.disk.Disk.act_on_names.Goals as goal

pub returns-in-Rooms : goal.returns-in-Rooms
returns-in-Rooms g c = record {
  ends = ends_step g.C.Calls.log c.args.self.now _ rooms _ _ (ap step_of c.in-Rooms.is) (rooms_told g.C.Calls.log c.args.self.now _ c.room_names.result refl (search rules) (search rules));
}

pub returns-in-FindRoom : goal.returns-in-FindRoom
returns-in-FindRoom g c = record {
  ends = ends_step g.C.Calls.log c.args.self.now _ (find_room c.in-FindRoom.name) _ _ (ap step_of c.in-FindRoom.is) (room_found g.C.Calls.log c.args.self.now _ _ c.in-FindRoom.name refl (refl, c.find_room.ensures) tt);
}

pub returns-in-MakeRoom : goal.returns-in-MakeRoom
returns-in-MakeRoom g c = record { ends = ends_step g.C.Calls.log c.args.self.now _ _ _ _ (ap step_of c.in-MakeRoom.is) c.make_room.ensures.ends }

pub returns-in-RenameRoom : goal.returns-in-RenameRoom
returns-in-RenameRoom g c = record { ends = ends_step g.C.Calls.log c.args.self.now _ _ _ _ (ap step_of c.in-RenameRoom.is) c.rename_room.ensures.ends }

pub returns-in-MakeFolder : goal.returns-in-MakeFolder
returns-in-MakeFolder g c = record { ends = ends_step g.C.Calls.log c.args.self.now _ _ _ _ (ap step_of c.in-MakeFolder.is) c.make_folder.ensures.ends }

pub returns-in-RemoveFolder : goal.returns-in-RemoveFolder
returns-in-RemoveFolder g c = record { ends = ends_step g.C.Calls.log c.args.self.now _ _ _ _ (ap step_of c.in-RemoveFolder.is) c.remove_folder.ensures.ends }

pub returns-in-List : goal.returns-in-List
returns-in-List g c = record { ends = ends_step g.C.Calls.log c.args.self.now _ _ _ _ (ap step_of c.in-List.is) c.list.ensures.ends }

pub returns-in-Create : goal.returns-in-Create
returns-in-Create g c = record { ends = ends_step g.C.Calls.log c.args.self.now _ _ _ _ (ap step_of c.in-Create.is) c.create.ensures.ends }

pub returns-in-Remove : goal.returns-in-Remove
returns-in-Remove g c = record { ends = ends_step g.C.Calls.log c.args.self.now _ _ _ _ (ap step_of c.in-Remove.is) c.remove.ensures.ends }

pub returns-in-Replace : goal.returns-in-Replace
returns-in-Replace g c = record { ends = ends_step g.C.Calls.log c.args.self.now _ _ _ _ (ap step_of c.in-Replace.is) c.replace.ensures.ends }
