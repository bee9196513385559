-- Which acts of the stores make a room.
use Rattle.std.specs.Prelude.{◌≡◌, ◌⊎◌, ℕ, List, length, Option, Some, None, Result, Ok, Err}
use Rattle.store_api.specs.declared.step.Answer.{Answer}
use Rattle.store_api.specs.declared.step.Answer.TheVariants.{Absent, Number, Old}
use Rattle.store_api.specs.declared.store.Trouble.{Trouble}
use Rattle.store_api.specs.declared.store.Trouble.TheVariants.{Fault, NoMemory}
use Rattle.store_api.specs.Step.{Name, make_room}
use Rattle.store_api.specs.Acts.{Stored}
use Rattle.spread_store.specs.declared.places.Place.{Place}
use Rattle.spread_store.specs.Asking.{ActsAt}
use Rattle.spread_store.specs.Homes.{home_of}
use Rattle.spread_store.specs.Joined.{Spreading}
use Rattle.spread_store.specs.Numbering.{place_number, or_zero}
use Rattle.spread_store.specs.Searches.{AsksInOrder}
use Rattle.spread_store.specs.Placing.{SameRooms, HasPlaced, HasDoubted}

-- what the numbers become once a store was asked to make the room
abbrev pub NumbersNew : ℕ → Name → Spreading → Spreading → Result Answer Trouble → Result Answer Trouble → Type 0
NumbersNew home name old new (Ok (Number room)) told =
    (told ≡ Ok (Number (length old.places))) × (HasPlaced (record { store = home; room = room }) old new ⊎ HasDoubted (record { store = home; name = name }) old new)
NumbersNew home name old new (Ok answer) told = (told ≡ Ok Absent) × SameRooms old new
NumbersNew home name old new (Err Fault) told = (told ≡ Err Fault) × HasDoubted (record { store = home; name = name }) old new
NumbersNew home name old new (Err NoMemory) told = (told ≡ Err NoMemory) × SameRooms old new

-- this store makes the room
pub record MakesIn (home : ℕ) (name : Name) (folders files : List Name) (mid : List Stored) (old new : Spreading) (told : Result Answer Trouble) : Type 0 where
  pub answered : Result Answer Trouble
  pub acts : ActsAt home (make_room name folders files) mid new.stores answered
  pub numbers : NumbersNew home name old new answered told

-- no store has the name: it is made in its home
abbrev pub MakesAt : Name → List Name → List Name → Result (Option Place) Trouble → List Stored → Spreading → Spreading → Result Answer Trouble → Type 0
MakesAt name folders files (Ok None) mid old new told = MakesIn (home_of name (length old.stores)) name folders files mid old new told
MakesAt name folders files (Ok (Some place)) mid old new told = (new.stores ≡ mid) × SameRooms old new × (told ≡ Ok (Old (or_zero (place_number old.places place))))
MakesAt name folders files (Err trouble) mid old new told = (new.stores ≡ mid) × SameRooms old new × (told ≡ Err trouble)

-- all stores are asked for the name
pub record CarriesMake (name : Name) (folders files : List Name) (old new : Spreading) (told : Result Answer Trouble) : Type 0 where
  pub mid : List Stored
  pub found : Result (Option Place) Trouble
  pub asked : AsksInOrder name old.stores mid found
  pub makes : MakesAt name folders files found mid old new told
