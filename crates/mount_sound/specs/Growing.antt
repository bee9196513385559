-- What stays, and what only grows from step to step.
use Rattle.std.specs.Prelude.{◌≡◌, ◌≤◌, ℕ, ◌*◌, List, ◌++◌, length, Some, slice_get}
use Rattle.plfs_types.specs.declared.limits.TheConstants.{ENTRY_SIZE}
use Rattle.container_layout.specs.declared.items.Item.{Item}
use Rattle.container_layout.specs.declared.items.Item.TheVariants.{OpenHost, TmpFlat, TmpPacked, Index, Log}
use Rattle.store_api.specs.declared.tree.Room.{Room}
use Rattle.store_api.specs.declared.tree.Tree.{Tree}
use Rattle.mount_sound.specs.Ledger.{Written, Ledger}
use Rattle.mount_sound.specs.Items.{HasItem}
use Rattle.mount_sound.specs.There.{landed_in}

-- an item that stays once it stands: any but an entry of an open writer, and an index that is being written
abbrev pub Stays : Item → Type 0
Stays (OpenHost host writer) = ⊥
Stays (TmpFlat id) = ⊥
Stays (TmpPacked host id) = ⊥
Stays item = Unit {0}

-- how long the item's file is later at least: a log doesn't get shorter, and an index dropping loses no entry that has
-- landed in it
abbrev pub least_length : Room → Item → List ℕ → ℕ
least_length room (Log host writer) bytes = length bytes
least_length room (Index host writer) bytes = ENTRY_SIZE * landed_in room host writer
least_length room item bytes = 0

-- each item that stays is there later, and its file is so long
abbrev pub ItemsStay : Tree → Tree → Type 0
ItemsStay tree after = (n : ℕ) (room : Room) (item : Item) (bytes : List ℕ) → slice_get tree.rooms n ≡ Some room → Stays item → HasItem room item bytes
    → (new : Room) × (later : List ℕ) × (slice_get after.rooms n ≡ Some new) × HasItem new item later × (least_length room item bytes ≤ length later)

-- the later writes are the earlier ones and more
abbrev pub IsMore : List Written → List Written → Type 0
IsMore earlier later = (more : List Written) × (later ≡ earlier ++ more)

-- so they are of every writer
abbrev pub IssuesMore : Ledger → Ledger → Type 0
IssuesMore earlier later = (number writer : ℕ) → IsMore (earlier number writer) (later number writer)
