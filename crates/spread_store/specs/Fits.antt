-- The places are those of the rooms.
use Rattle.std.specs.Prelude.{◌≡◌, ◌⊎◌, ℕ, List, Option, Some, None, slice_get, true}
use Rattle.store_api.specs.declared.tree.Room.{Room}
use Rattle.spread_store.specs.declared.places.Place.{Place}
use Rattle.spread_store.specs.declared.places.Doubt.{Doubt}
use Rattle.spread_store.specs.Joined.{Held, room_at, all_tell, held_by, Spreading}

-- this is the room that may have been made
abbrev pub Doubts : Option Doubt → Place → Room → Type 0
Doubts None place room = ⊥
Doubts (Some doubt) place room = (place.store ≡ doubt.store) × (room.name ≡ doubt.name)

-- no two rooms of the stores have one name
abbrev pub AreNamed : Held → Type 0
AreNamed held = (p q : Place) (a b : Room) → room_at held p ≡ Some a → room_at held q ≡ Some b → a.name ≡ b.name → p ≡ q

-- each room of the stores has one place in the list, but for the one in doubt
pub record Fits (held : Held) (places : List Place) (doubt : Option Doubt) : Type 0 where
  pub placed : (k : ℕ) (p : Place) → slice_get places k ≡ Some p → (r : Room) × (room_at held p ≡ Some r)
  pub apart : (j k : ℕ) (p : Place) → slice_get places j ≡ Some p → slice_get places k ≡ Some p → j ≡ k
  pub whole : (p : Place) (r : Room) → room_at held p ≡ Some r → ((k : ℕ) × (slice_get places k ≡ Some p)) ⊎ Doubts doubt p r
  pub sure : (k : ℕ) (p : Place) (r : Room) → slice_get places k ≡ Some p → room_at held p ≡ Some r → Doubts doubt p r → ⊥
  pub named : AreNamed held

-- where all stores tell
abbrev pub IsFit : Spreading → Type 0
IsFit s = all_tell (held_by s.stores) ≡ true → Fits (held_by s.stores) s.places s.doubt
