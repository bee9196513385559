-- The rooms get their numbers as stores are opened, store by store and name by name.
use Rattle.std.specs.Prelude.{◌≡◌, ◌⊎◌, ◌<◌, ◌++◌, ℕ, List, [], ◌∷◌, Option, Result, Ok, Err, Some, None, true, false, slice_get}
use Rattle.std.specs.Ordering.{nat_cmp, match_ordering}
use Rattle.std.specs.Cmp.Lexicographic.{slice_cmp}
use Rattle.store_laws.specs.Differ.{is_listed}
use Rattle.store_laws.specs.There.{AreInOrder}
use Rattle.store_api.specs.declared.tree.Room.{Room}
use Rattle.store_api.specs.declared.store.Trouble.{Trouble}
use Rattle.store_api.specs.declared.store.Trouble.TheVariants as trouble
use Rattle.store_api.specs.Step.{Name}
use Rattle.store_api.specs.Acts.{Stored}
use Rattle.spread_store.specs.declared.places.Place.{Place}
use Rattle.spread_store.specs.Joined.{Held, held_by, all_tell, room_at}
use Rattle.spread_store.specs.Finding.{SameHeld, FailsHeld, IsNamed, IsFirst}
use Rattle.spread_store.specs.Doubled.{IsDoubled, IsBelow, IsAtMost}
use Rattle.spread_store.specs.Opening.{RoomsDifferInEach, IsInOrder}

-- a room that has its number when those of the stores before this one, and of these names in it, have theirs
abbrev pub InRange : ℕ → List Name → Place → Room → Type 0
InRange store done p r = (p.store < store) ⊎ ((p.store ≡ store) × (is_listed r.name done ≡ true))

-- the places once the stores before this one, and these names in it, were numbered
pub record Numbered (held : Held) (store : ℕ) (done : List Name) (places : List Place) (doubled : Option Name) : Type 0 where
  pub placed : (k : ℕ) (p : Place) → slice_get places k ≡ Some p → (r : Room) × (room_at held p ≡ Some r) × InRange store done p r
  pub apart : (j k : ℕ) (p : Place) → slice_get places j ≡ Some p → slice_get places k ≡ Some p → j ≡ k
  pub whole : doubled ≡ None → (p : Place) (r : Room) → room_at held p ≡ Some r → InRange store done p r → (k : ℕ) × (slice_get places k ≡ Some p)
  pub lone : doubled ≡ None → (p : Place) (r : Room) → room_at held p ≡ Some r → InRange store done p r → IsFirst held r.name p.store
  pub ordered : IsInOrder held places
  pub twice : (name : Name) → doubled ≡ Some name → IsDoubled held name
  pub least : (name : Name) → doubled ≡ Some name → (p q : Place) (r : Room) → room_at held p ≡ Some r → InRange store done p r → IsNamed held r.name q → q.store < p.store → IsAtMost name r.name

-- the lesser of a name and one that was kept
abbrev pub least_of : Option Name → Name → Option Name
least_of None name = Some name
least_of (Some kept) name = match_ordering (slice_cmp nat_cmp name kept) (Some name) (Some kept) (Some kept)

-- the room of the name has its number too
abbrev pub Adds : ℕ → Name → Held → List Place → List Place → Option Name → Option Name → Type 0
Adds store name held places more doubled next = (done : List Name) → RoomsDifferInEach held → is_listed name done ≡ false → ((other : Name) → is_listed other done ≡ true → IsBelow other name) → (i : ℕ) × IsNamed held name (record { store = store; room = i })
    → Numbered held store done places doubled → Numbered held store (done ++ name ∷ []) more next

abbrev pub NumbersOne : ℕ → Name → List Stored → List Stored → List Place → List Place → Option Name → Result (Option Name) Trouble → Type 0
NumbersOne store name old new places more doubled (Ok next) = SameHeld old new × (all_tell (held_by old) ≡ true → Adds store name (held_by old) places more doubled next)
NumbersOne store name old new places more doubled (Err trouble.Fault) = FailsHeld old new
NumbersOne store name old new places more doubled (Err trouble.NoMemory) = SameHeld old new

-- the rooms of these names have their numbers too, where they are names of the store's rooms and none stands twice
abbrev pub AddsAll : ℕ → List Name → Held → List Place → List Place → Option Name → Option Name → Type 0
AddsAll store names held places more doubled next = RoomsDifferInEach held → AreInOrder names → ((name : Name) → is_listed name names ≡ true → (i : ℕ) × IsNamed held name (record { store = store; room = i }))
    → Numbered held store [] places doubled → Numbered held store names more next

abbrev pub NumbersStore : ℕ → List Name → List Stored → List Stored → List Place → List Place → Option Name → Result (Option Name) Trouble → Type 0
NumbersStore store names old new places more doubled (Ok next) = SameHeld old new × (all_tell (held_by old) ≡ true → AddsAll store names (held_by old) places more doubled next)
NumbersStore store names old new places more doubled (Err trouble.Fault) = FailsHeld old new
NumbersStore store names old new places more doubled (Err trouble.NoMemory) = SameHeld old new
