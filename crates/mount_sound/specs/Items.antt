-- Items that stand in a room.
use Rattle.std.specs.Prelude.{◌≡◌, ◌⊎◌, ℕ, List, Some}
use Rattle.container_layout.specs.declared.items.Item.{Item}
use Rattle.container_layout.specs.declared.items.Item.TheVariants.{OpenHost, Meta, Index}
use Rattle.container_layout.specs.Items.{IsItem}
use Rattle.container_layout.specs.Paths.{path_of}
use Rattle.store_api.specs.declared.tree.Room.{Room}
use Rattle.store_laws.specs.Files.{file_at}

-- the room has this item, with these bytes
pub record HasItem (room : Room) (item : Item) (bytes : List ℕ) : Type 0 where
  pub is_item : IsItem item
  pub there : file_at room (path_of item) ≡ Some bytes

-- a metadata dropping of this host and writer is there
pub record HasMeta (room : Room) (host writer : ℕ) : Type 0 where
  pub last : ℕ
  pub bytes : ℕ
  pub stamp : ℕ
  pub content : List ℕ
  pub has : HasItem room (Meta last bytes stamp host writer) content

-- the room has an index dropping, an entry in the folder of open writers, or a metadata dropping of this host and writer
abbrev pub HasItemOf : Room → ℕ → ℕ → Type 0
HasItemOf room host writer =
    ((bytes : List ℕ) × HasItem room (Index host writer) bytes)
    ⊎ ((bytes : List ℕ) × HasItem room (OpenHost host writer) bytes)
    ⊎ HasMeta room host writer
