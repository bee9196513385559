-- The names of the stores' rooms.
use Rattle.std.specs.Prelude.{◌≡◌, ℕ, List, [], length, map, Result, Ok, Err, Some, slice_get, true}
use Rattle.store_api.specs.declared.tree.Room.{Room}
use Rattle.store_api.specs.declared.step.Answer.{Answer}
use Rattle.store_api.specs.declared.step.Answer.TheVariants.{Names}
use Rattle.store_api.specs.declared.store.Trouble.{Trouble}
use Rattle.store_api.specs.declared.store.Trouble.TheVariants.{Fault, NoMemory}
use Rattle.store_api.specs.Step.{Name, rooms}
use Rattle.store_api.specs.Names.{in_byte_order}
use Rattle.store_api.specs.Acts.{Stored}
use Rattle.store_laws.specs.Differ.{is_listed}
use Rattle.spread_store.specs.declared.places.Place.{Place}
use Rattle.spread_store.specs.Joined.{Held, held_by, all_tell, rooms_in, room_at}
use Rattle.spread_store.specs.Asking.{ActsAt}
use Rattle.spread_store.specs.Finding.{SameHeld, FailsHeld, IsNamed}
use Rattle.spread_store.specs.Searches.{HasAnswered, FirstAnswered}

-- the names in an answer
abbrev pub names_told : Answer → List Name
names_told (Names names) = names
names_told answer = []

-- the names are those of the rooms of this store
abbrev pub GathersIn : ℕ → List Stored → List Stored → Result (List Name) Trouble → Type 0
GathersIn store old new (Ok names) = SameHeld old new × (all_tell (held_by old) ≡ true → names ≡ in_byte_order (map (λ (r : Room). r.name) (rooms_in (held_by old) store)))
GathersIn store old new (Err Fault) = FailsHeld old new
GathersIn store old new (Err NoMemory) = SameHeld old new

-- the names are those of the rooms of all stores
pub record AreNamesIn (held : Held) (names : List Name) : Type 0 where
  pub only : (name : Name) → is_listed name names ≡ true → (p : Place) × IsNamed held name p
  pub all : (p : Place) (r : Room) → room_at held p ≡ Some r → is_listed r.name names ≡ true

abbrev pub Gathers : List Stored → List Stored → Result (List Name) Trouble → Type 0
Gathers old new (Ok names) = SameHeld old new × (all_tell (held_by old) ≡ true → AreNamesIn (held_by old) names)
Gathers old new (Err Fault) = FailsHeld old new
Gathers old new (Err NoMemory) = SameHeld old new

-- one store is asked for its rooms
abbrev pub AsksRooms : ℕ → List Stored → List Stored → Result (List Name) Trouble → Type 0
AsksRooms store old new (Ok names) = (answer : Answer) × (names ≡ names_told answer) × ActsAt store rooms old new (Ok answer)
AsksRooms store old new (Err trouble) = ActsAt store rooms old new (Err trouble)

abbrev pub AnyAnswer : Answer → Type 0
AnyAnswer answer = Unit {0}

-- what was told is among these names
abbrev pub AreAmong : List Name → Answer → Type 0
AreAmong names answer = (name : Name) → is_listed name (names_told answer) ≡ true → is_listed name names ≡ true

-- a store told this name
pub record TellsName (old new : List Stored) (name : Name) : Type 0 where
  pub number : ℕ
  pub before : Stored
  pub after : Stored
  pub was : slice_get old number ≡ Some before
  pub is : slice_get new number ≡ Some after
  pub answered : HasAnswered rooms (λ answer. is_listed name (names_told answer) ≡ true) before after

-- the stores are asked for their rooms, one after the other, and these are the names that they told; at want of memory perhaps not all
abbrev pub AsksAllRooms : List Stored → List Stored → Result (List Name) Trouble → Type 0
AsksAllRooms old new (Ok names) = FirstAnswered rooms (AreAmong names) (length old) old new × ((name : Name) → is_listed name names ≡ true → TellsName old new name)
AsksAllRooms old new (Err Fault) = (n : ℕ) × (mid : List Stored) × FirstAnswered rooms AnyAnswer n old mid × ActsAt n rooms mid new (Err Fault)
AsksAllRooms old new (Err NoMemory) = Unit {0}
