-- A tree of which all is kept.
use Rattle.std.specs.Prelude.{map}
use Rattle.store_api.specs.declared.tree.Room.{Room}
use Rattle.store_api.specs.declared.tree.Tree.{Tree}
use Rattle.store_api.specs.Kept.{synced}

-- all bytes of its files are kept
abbrev pub room_kept : Room → Room
room_kept room = record room { files = map synced room.files }

abbrev pub all_kept : Tree → Tree
all_kept tree = record { rooms = map room_kept tree.rooms }
