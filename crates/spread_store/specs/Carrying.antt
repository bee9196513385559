-- Which acts of the stores carry out a step.
use Rattle.std.specs.Prelude.{◌≡◌, ℕ, List, slice_get, Option, Some, None, Result, Ok, Err}
use Rattle.store_api.specs.declared.step.Answer.{Answer}
use Rattle.store_api.specs.declared.step.Answer.TheVariants.{NoRoom, Names}
use Rattle.store_api.specs.declared.store.Trouble.{Trouble}
use Rattle.store_api.specs.declared.store.Trouble.TheVariants.{Fault, NoMemory}
use Rattle.store_api.specs.Names.{in_byte_order}
use Rattle.store_api.specs.Step.{Step, Name, rooms, find_room, make_room, rename_room}
use Rattle.spread_store.specs.declared.places.Place.{Place}
use Rattle.spread_store.specs.Asking.{ActsAt}
use Rattle.spread_store.specs.InRoom.{number_in, at_room}
use Rattle.spread_store.specs.Joined.{Spreading}
use Rattle.spread_store.specs.Listing.{AsksAllRooms}
use Rattle.spread_store.specs.Placing.{SameRooms}
use Rattle.spread_store.specs.Renaming.{CarriesFind, CarriesRename}
use Rattle.spread_store.specs.Making.{CarriesMake}
use Rattle.spread_store.specs.Doubting.{HasSettled, BreaksOff}

-- one act on the room's store, whose answer is the answer
abbrev pub CarriesInRoom : Step → Option Place → Spreading → Spreading → Result Answer Trouble → Type 0
CarriesInRoom step None old new told = (new ≡ old) × (told ≡ Ok NoRoom)
CarriesInRoom step (Some place) old new told = SameRooms old new × ActsAt place.store (at_room place.room step) old.stores new.stores told

abbrev pub names_answer : Result (List Name) Trouble → Result Answer Trouble
names_answer (Ok names) = Ok (Names (in_byte_order names))
names_answer (Err trouble) = Err trouble

-- every store names its rooms, and the answer is their names
pub record CarriesRooms (old new : Spreading) (told : Result Answer Trouble) : Type 0 where
  pub same : SameRooms old new
  pub names : Result (List Name) Trouble
  pub asked : AsksAllRooms old.stores new.stores names
  pub told_so : told ≡ names_answer names

abbrev pub place_for : List Place → Option ℕ → Option Place
place_for places None = None
place_for places (Some number) = slice_get places number

-- where no room is in doubt
abbrev pub CarriesSurely : Step → Spreading → Spreading → Result Answer Trouble → Type 0
CarriesSurely rooms old new told = CarriesRooms old new told
CarriesSurely (find_room name) old new told = CarriesFind name old new told
CarriesSurely (make_room name folders files) old new told = CarriesMake name folders files old new told
CarriesSurely (rename_room number to) old new told = CarriesRename (slice_get old.places number) to old new told
CarriesSurely step old new told = CarriesInRoom step (place_for old.places (number_in step)) old new told

-- a room in doubt is asked for first
pub data Carries (step : Step) (old new : Spreading) (told : Result Answer Trouble) : Type 0 where
  settled : (mid : Spreading) → HasSettled old.doubt old mid → CarriesSurely step mid new told → Carries step old new told
  broken_off : (trouble : Trouble) → told ≡ Err trouble → BreaksOff old.doubt old new trouble → Carries step old new told

abbrev pub store_of : Option Place → ℕ → ℕ
store_of None last = last
store_of (Some place) last = place.store

-- the store that has the room within which the step is made, or else the one before
abbrev pub last_after : List Place → Step → ℕ → ℕ
last_after places step last = store_of (place_for places (number_in step)) last

abbrev pub last_told : List Place → Step → ℕ → Result Answer Trouble → ℕ
last_told places step last (Ok answer) = last_after places step last
last_told places step last (Err Fault) = last_after places step last
last_told places step last (Err NoMemory) = last
