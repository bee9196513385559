-- Rooms that callers hold.
use Rattle.std.specs.Prelude.{◌≡◌, ℕ, List, false, Some, slice_get}
use Rattle.store_api.specs.declared.tree.Room.{Room}
use Rattle.store_api.specs.declared.tree.Tree.{Tree}
use Rattle.store_api.specs.Room.{has_folder}
use Rattle.mount_model.specs.declared.row.Holder.{Holder}
use Rattle.container_layout.specs.Paths.{openhosts}
use Rattle.mount_model.specs.Table.{holder_at}

-- the room is there, and has no folder of who has the container open
pub record IsHeldIn (tree : Tree) (h : Holder) : Type 0 where
  pub room : Room
  pub there : slice_get tree.rooms h.room ≡ Some room
  pub closed : has_folder room openhosts ≡ false

-- So it is of each holder, and no two hold one room.
pub record AreHeld (holders : List Holder) (tree : Tree) : Type 0 where
  pub each : (number : ℕ) (h : Holder) → holder_at number holders ≡ Some h → IsHeldIn tree h
  pub alone : (one other : ℕ) (h k : Holder) → holder_at one holders ≡ Some h → holder_at other holders ≡ Some k → h.room ≡ k.room → one ≡ other
