-- Calls that find, make and name containers.
use Rattle.std.specs.Prelude.{◌≡◌, ◌⊎◌, List, [], ◌∷◌, Ok}
use Rattle.plfs_types.specs.Names.{IsLogicalName}
use Rattle.store_api.specs.declared.step.Answer.TheVariants.{Number, Old, Absent, Names}
use Rattle.store_api.specs.Step.{find_room, make_room, rooms as all_rooms}
use Rattle.store_api.specs.Acts.{Acts}
use Rattle.mount_model.specs.declared.reply.Reply.{Reply}
use Rattle.mount_model.specs.declared.reply.Reply.TheVariants.{Room, Rooms, Refused}
use Rattle.mount_model.specs.declared.reply.Refusal.TheVariants.{NoRoom}
use Rattle.mount_model.specs.Paths.{Name, new_folders, new_files}
use Rattle.mount_model.specs.State.{State, Table}
use Rattle.mount_model.specs.Making.{Told, CallOutcome, says, otherwise, MakesAct}

abbrev pub find_outcome : Table → Told → CallOutcome
find_outcome table (Ok (Number room)) = says (Room room) table
find_outcome table (Ok Absent) = says (Refused NoRoom) table
find_outcome table told = says (otherwise [] [] told) table

pub record Finds (name : Name) (old : State) (reply : Reply) (new : State) : Type 0 where
  pub named : IsLogicalName name
  pub makes : MakesAct (find_room name) (find_outcome old.table) old reply new

abbrev pub make_outcome : Table → Told → CallOutcome
make_outcome table (Ok (Number room)) = says (Room room) table
make_outcome table (Ok (Old room)) = says (Room room) table
make_outcome table told = says (otherwise [] [] told) table

pub record MakesContainer (name : Name) (old : State) (reply : Reply) (new : State) : Type 0 where
  pub named : IsLogicalName name
  pub makes : MakesAct (make_room name new_folders new_files) (make_outcome old.table) old reply new

-- the logical names among these, in their order
abbrev pub AreLogicalOf : List Name → List Name → Type 0
AreLogicalOf [] kept = kept ≡ []
AreLogicalOf (name ∷ names) kept =
    (IsLogicalName name × ((rest : List Name) × (kept ≡ name ∷ rest) × AreLogicalOf names rest))
    ⊎ ((IsLogicalName name → ⊥) × AreLogicalOf names kept)

-- what is answered to what the store told of its rooms
abbrev pub RoomsReply : Told → Reply → Type 0
RoomsReply (Ok (Names names)) reply = (kept : List Name) × (reply ≡ Rooms kept) × AreLogicalOf names kept
RoomsReply told reply = reply ≡ otherwise [] [] told

pub record NamesRooms (old : State) (reply : Reply) (new : State) : Type 0 where
  pub told : Told
  pub made : Acts all_rooms old.store new.store told
  pub answered : RoomsReply told reply
  pub after : new ≡ record old { store = new.store }
