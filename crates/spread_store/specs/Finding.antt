-- The search for a room of a name.
use Rattle.std.specs.Prelude.{◌≡◌, ◌≤◌, ℕ, List, Result, Ok, Err, Option, Some, None, true}
use Rattle.plfs_types.specs.Counts.{HasRisen}
use Rattle.store_api.specs.declared.tree.Room.{Room}
use Rattle.store_api.specs.declared.step.Answer.{Answer}
use Rattle.store_api.specs.declared.step.Answer.TheVariants.{Number}
use Rattle.store_api.specs.declared.store.Trouble.{Trouble}
use Rattle.store_api.specs.declared.store.Trouble.TheVariants.{Fault, NoMemory}
use Rattle.store_api.specs.Step.{Name}
use Rattle.store_api.specs.Acts.{Stored}
use Rattle.spread_store.specs.declared.places.Place.{Place}
use Rattle.spread_store.specs.Joined.{Held, held_by, all_tell, faults_of, room_at}

-- the number in an answer
abbrev pub number_told : Answer → Option ℕ
number_told (Number value) = Some value
number_told answer = None

-- what the stores hold stays, and none has failed
pub record SameHeld (old new : List Stored) : Type 0 where
  pub held : held_by new ≡ held_by old
  pub faults : faults_of new ≡ faults_of old

-- what the stores hold stays, and one has failed
pub record FailsHeld (old new : List Stored) : Type 0 where
  pub held : held_by new ≡ held_by old
  pub faults : faults_of old ≤ faults_of new
  pub cause : HasRisen (faults_of old) (faults_of new)

-- a room of this name stands at this place
pub record IsNamed (held : Held) (name : Name) (p : Place) : Type 0 where
  pub room : Room
  pub there : room_at held p ≡ Some room
  pub named : room.name ≡ name

-- no room of this store has the name
abbrev pub LacksName : Held → Name → ℕ → Type 0
LacksName held name store = (i : ℕ) (r : Room) → room_at held (record { store = store; room = i }) ≡ Some r → r.name ≡ name → ⊥

abbrev pub FindsIn : ℕ → Name → List Stored → List Stored → Result (Option ℕ) Trouble → Type 0
FindsIn store name old new (Ok (Some i)) = SameHeld old new × (all_tell (held_by old) ≡ true → IsNamed (held_by old) name (record { store = store; room = i }))
FindsIn store name old new (Ok None) = SameHeld old new × (all_tell (held_by old) ≡ true → LacksName (held_by old) name store)
FindsIn store name old new (Err Fault) = FailsHeld old new
FindsIn store name old new (Err NoMemory) = SameHeld old new

-- no room of the stores has the name
abbrev pub IsFreeIn : Held → Name → Type 0
IsFreeIn held name = (p : Place) (r : Room) → room_at held p ≡ Some r → r.name ≡ name → ⊥

-- no store before this one has the name
abbrev pub IsFirst : Held → Name → ℕ → Type 0
IsFirst held name store = (q : Place) (r : Room) → room_at held q ≡ Some r → r.name ≡ name → store ≤ q.store

abbrev pub Finds : Name → List Stored → List Stored → Result (Option Place) Trouble → Type 0
Finds name old new (Ok (Some p)) = SameHeld old new × (all_tell (held_by old) ≡ true → IsNamed (held_by old) name p) × (all_tell (held_by old) ≡ true → IsFirst (held_by old) name p.store)
Finds name old new (Ok None) = SameHeld old new × (all_tell (held_by old) ≡ true → IsFreeIn (held_by old) name)
Finds name old new (Err Fault) = FailsHeld old new
Finds name old new (Err NoMemory) = SameHeld old new
