-- Soundness of the state of a mount, room by room, for what its writers issued.
use Rattle.std.specs.Prelude.{◌≡◌, ◌^◌, ◌≤◌, ◌<◌, ℕ, List, [], length, Some, None, slice_get}
use Rattle.container_layout.specs.declared.items.Item.TheVariants.{Trunc}
use Rattle.store_api.specs.declared.tree.Room.{Room}
use Rattle.store_api.specs.declared.tree.Tree.{Tree}
use Rattle.mount_model.specs.declared.row.Row.{Row}
use Rattle.mount_model.specs.Table.{row_of}
use Rattle.mount_model.specs.State.{State, last_id}
use Rattle.mount_model.specs.Regular.{IsRegular}
use Rattle.mount_sound.specs.Marks.{IsOfMark}
use Rattle.mount_sound.specs.Shape.{IsShapedTree, IsShaped}
use Rattle.mount_sound.specs.Ledger.{Written, AreWritesOf, Ledger}
use Rattle.mount_sound.specs.Items.{HasItem}
use Rattle.mount_sound.specs.Dropping.{IsWriter}
use Rattle.mount_sound.specs.Kept.{IsKept}
use Rattle.mount_sound.specs.Held.{AreHeld}
use Rattle.mount_sound.specs.Flats.{AreRightFlats, AreBeingMade}

-- no two truncates of the room have one stamp
abbrev pub TruncatesDiffer : Room → Type 0
TruncatesDiffer room = (stamp size other : ℕ) (a b : List ℕ) → HasItem room (Trunc stamp size) a → HasItem room (Trunc stamp other) b → size ≡ other

-- What the room of this number holds of every writer, and of those of the table.
pub record IsSoundRoom (issued : ℕ → List Written) (rows : List Row) (number : ℕ) (room : Room) : Type 0 where
  pub writers : (writer : ℕ) → writer < 2 ^ 64 → IsWriter room writer (issued writer)
  pub kept : (id : ℕ) (row : Row) → row_of id rows ≡ Some row → row.room ≡ number → IsKept room row (issued id)
  pub truncates : TruncatesDiffer room

abbrev pub AreSoundRooms : Ledger → List Row → Tree → Type 0
AreSoundRooms issued rows tree = (number : ℕ) (room : Room) → slice_get tree.rooms number ≡ Some room → IsSoundRoom (issued number) rows number room

-- Rooms and table are sound, each row is of a room that is there, and no id above the last one has written, nor any
-- in a room that isn't there.
pub record AreSound (last : ℕ) (issued : Ledger) (rows : List Row) (tree : Tree) : Type 0 where
  pub rooms : AreSoundRooms issued rows tree
  pub writes : (number writer : ℕ) → AreWritesOf writer (issued number writer)
  pub placed : (id : ℕ) (row : Row) → row_of id rows ≡ Some row → (room : Room) × (slice_get tree.rooms row.room ≡ Some room)
  pub fresh : (number writer : ℕ) → last < writer → issued number writer ≡ []
  pub roomless : (number writer : ℕ) → slice_get tree.rooms number ≡ None → issued number writer ≡ []

-- A tree is sound where its droppings alone account for what it holds: all that their writers issued has landed; and
-- where its flattened and packed indices are right.
pub record IsSoundTree (tree : Tree) : Type 0 where
  pub shaped : IsShapedTree (IsOfMark tree) tree
  pub issued : Ledger
  pub rooms : AreSoundRooms issued [] tree
  pub writes : (number writer : ℕ) → AreWritesOf writer (issued number writer)
  pub all_landed : (number : ℕ) (room : Room) (there : slice_get tree.rooms number ≡ Some room) (writer : ℕ) (fits : writer < 2 ^ 64) → ((rooms number room there).writers writer fits).landed ≡ length (issued number writer)
  -- ids have 64 bits
  pub fitting : (number writer : ℕ) → 2 ^ 64 ≤ writer → issued number writer ≡ []
  pub roomless : (number writer : ℕ) → slice_get tree.rooms number ≡ None → issued number writer ≡ []
  pub flats : AreRightFlats tree

-- the store told its tree as mounting began, and that was sound
abbrev pub IsClean : State → Type 0
IsClean state = (tree : Tree) × (state.opened.tree ≡ Some tree) × IsSoundTree tree

-- The store told a sound tree as mounting began. It tells a tree of the right shape now, which is sound for what was
-- issued; who holds a room keeps writers out of it, and flattened and packed indices are right, made and in the making.
pub record IsSoundFor (issued : Ledger) (state : State) : Type 0 where
  pub clean : IsClean state
  pub regular : IsRegular state
  pub shape : IsShaped state
  pub sound : AreSound (last_id state) issued state.table.writers shape.tree
  pub held : AreHeld state.table.holders shape.tree
  pub flats : AreRightFlats shape.tree
  pub flattenings : AreBeingMade state.table.flattenings shape.tree

abbrev pub IsSound : State → Type 0
IsSound state = (issued : Ledger) × IsSoundFor issued state

-- the table is regular, and where the state is clean, it is sound
pub record IsFine (state : State) : Type 0 where
  pub regular : IsRegular state
  pub sound : IsClean state → IsSound state
