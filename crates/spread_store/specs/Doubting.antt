-- One question to the store of the room in doubt.
use Rattle.std.specs.Prelude.{◌≡◌, ℕ, Option, Some, None, Result, Ok, Err}
use Rattle.store_api.specs.declared.store.Trouble.{Trouble}
use Rattle.store_api.specs.declared.store.Trouble.TheVariants.{Fault, NoMemory}
use Rattle.spread_store.specs.declared.places.Doubt.{Doubt}
use Rattle.spread_store.specs.Joined.{Spreading}
use Rattle.spread_store.specs.Searches.{AsksOne}
use Rattle.spread_store.specs.Placing.{SameRooms, HasPlaced}

-- the room in doubt has its number, or wasn't made
abbrev pub NumbersDoubted : Doubt → Option ℕ → Spreading → Spreading → Type 0
NumbersDoubted doubt (Some room) old new = HasPlaced (record { store = doubt.store; room = room }) old new
NumbersDoubted doubt None old new = (new.places ≡ old.places) × (new.doubt ≡ None)

-- one question to the store of the room in doubt, where there is one
abbrev pub HasSettled : Option Doubt → Spreading → Spreading → Type 0
HasSettled None old new = new ≡ old
HasSettled (Some doubt) old new = (room : Option ℕ) × AsksOne doubt.store doubt.name old.stores new.stores (Ok room) × NumbersDoubted doubt room old new

-- that question failed, or memory was refused: the room stays in doubt
abbrev pub BreaksOff : Option Doubt → Spreading → Spreading → Trouble → Type 0
BreaksOff None old new trouble = ⊥
BreaksOff (Some doubt) old new Fault = SameRooms old new × AsksOne doubt.store doubt.name old.stores new.stores (Err Fault)
BreaksOff (Some doubt) old new NoMemory = SameRooms old new

abbrev pub AsksDoubted : {T : Type 0} → Spreading → Spreading → Result T Trouble → Type 0
AsksDoubted old new (Ok done) = HasSettled old.doubt old new
AsksDoubted old new (Err trouble) = BreaksOff old.doubt old new trouble
