-- What the writers of a plain machine have in a tree: their droppings.
use Rattle.std.specs.Prelude.{◌≡◌, ◌⊎◌, ◌≤◌, ℕ, true, false, length, Some, MatchOption, slice_get}
use Rattle.std.specs.List.{AllByRecursion}
use Rattle.store_api.specs.declared.tree.Room.{Room}
use Rattle.store_api.specs.declared.tree.Tree.{Tree}
use Rattle.store_laws.specs.Files.{file_at}
use Rattle.store_laws.specs.Prefix.{IsPrefix}
use Rattle.mount_model.specs.Paths.{index_path}
use Rattle.mount_sound.specs.Dropping.{IsDropping, log_bytes}
use Rattle.mount_sound.specs.Items.{HasMeta}
use Rattle.mount_sound.specs.Ledger.{content}
use Rattle.plain_machine.specs.Machine.{Plain, PlainRoom, PlainWriter}

-- The writer's index dropping has the entries of its writes that have landed. Its log begins with the bytes of all its writes, where one has landed or the writer
-- is open. Of a writer that isn't open a metadata dropping tells what has landed.
pub record HasDroppings (room : Room) (w : PlainWriter) : Type 0 where
  pub index : MatchOption (file_at room (index_path w.host w.id)) (w.landed ≡ 0) (IsDropping w.id w.issued w.landed (length (log_bytes room w.host w.id)))
  pub log : (1 ≤ w.landed) ⊎ (w.is_open ≡ true) → IsPrefix (content w.issued) (log_bytes room w.host w.id)
  pub told : w.is_open ≡ false → 1 ≤ w.landed → HasMeta room w.host w.id

-- each writer of the machine has its droppings in the room of the same number
abbrev pub HaveDroppings : Tree → Plain → Type 0
HaveDroppings tree p = (number : ℕ) (r : Room) (room : PlainRoom) → slice_get tree.rooms number ≡ Some r → slice_get p.rooms number ≡ Some room → AllByRecursion (HasDroppings r) room.writers
