-- Several stores are opened as one.
use Rattle.std.specs.Prelude.{◌≡◌, ◌⊎◌, ◌<◌, ℕ, List, Result, Ok, Err, Some, None, true, slice_get}
use Rattle.store_laws.specs.Differ.{RoomsDiffer}
use Rattle.store_api.specs.declared.tree.Room.{Room}
use Rattle.store_api.specs.declared.tree.Tree.{Tree}
use Rattle.store_api.specs.Step.{Name}
use Rattle.store_api.specs.Acts.{Stored}
use Rattle.spread_store.specs.declared.places.Place.{Place}
use Rattle.spread_store.specs.declared.opening.SpreadTrouble.{SpreadTrouble}
use Rattle.spread_store.specs.declared.opening.SpreadTrouble.TheVariants.{Doubled, Fault, NoMemory}
use Rattle.spread_store.specs.Joined.{Held, held_by, all_tell, room_at}
use Rattle.spread_store.specs.Fits.{Fits}
use Rattle.spread_store.specs.Finding.{SameHeld, FailsHeld}
use Rattle.spread_store.specs.Shown.{Shown}
use Rattle.spread_store.specs.Doubled.{IsDoubled, IsBelow, IsLeastDoubled}

-- no two rooms of one store have one name
abbrev pub RoomsDifferInEach : Held → Type 0
RoomsDifferInEach held = (s : ℕ) (tree : Tree) → slice_get held s ≡ Some (Some tree) → RoomsDiffer tree

-- numbers go by stores, and in each store by names in byte order
abbrev pub IsInOrder : Held → List Place → Type 0
IsInOrder held places = (j k : ℕ) (p q : Place) (a b : Room) → j < k → slice_get places j ≡ Some p → slice_get places k ≡ Some q → room_at held p ≡ Some a → room_at held q ≡ Some b
    → (p.store < q.store) ⊎ ((p.store ≡ q.store) × IsBelow a.name b.name)

abbrev pub Numbers : List Stored → List Stored → Result (List Place) SpreadTrouble → Type 0
Numbers old new (Ok places) = SameHeld old new × (all_tell (held_by old) ≡ true → RoomsDifferInEach (held_by old) → Fits (held_by old) places None × IsInOrder (held_by old) places)
Numbers old new (Err (Doubled name)) = SameHeld old new × (all_tell (held_by old) ≡ true → RoomsDifferInEach (held_by old) → IsLeastDoubled (held_by old) name)
Numbers old new (Err Fault) = FailsHeld old new
Numbers old new (Err NoMemory) = SameHeld old new

-- what is held stays, and nothing was counted; where all stores tell, the rooms have their numbers, in order
pub record Opens (old : List Stored) (spread : Shown) : Type 0 where
  pub same : SameHeld old spread.stores
  pub sure : spread.doubt ≡ None
  pub acts : spread.acts ≡ 0
  pub last : spread.last ≡ 0
  pub fits : all_tell (held_by old) ≡ true → Fits (held_by old) spread.places None
  pub ordered : all_tell (held_by old) ≡ true → IsInOrder (held_by old) spread.places
  pub undoubled : all_tell (held_by old) ≡ true → (name : Name) → IsDoubled (held_by old) name → ⊥
