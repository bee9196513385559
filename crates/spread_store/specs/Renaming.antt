-- Which acts of the stores carry out a search for a name, and a renaming.
use Rattle.std.specs.Prelude.{◌≡◌, List, Option, Some, None, Result, Ok, Err}
use Rattle.store_api.specs.declared.step.Answer.{Answer}
use Rattle.store_api.specs.declared.step.Answer.TheVariants.{Absent, NoRoom, TargetThere}
use Rattle.store_api.specs.declared.store.Trouble.{Trouble}
use Rattle.store_api.specs.Step.{Name, rename_room}
use Rattle.store_api.specs.Effect.{number_or_absent}
use Rattle.store_api.specs.Acts.{Stored}
use Rattle.spread_store.specs.declared.places.Place.{Place}
use Rattle.spread_store.specs.Asking.{ActsAt}
use Rattle.spread_store.specs.Joined.{Spreading}
use Rattle.spread_store.specs.Numbering.{place_number}
use Rattle.spread_store.specs.Searches.{AsksInOrder}
use Rattle.spread_store.specs.Placing.{SameRooms}

abbrev pub found_answer : List Place → Result (Option Place) Trouble → Result Answer Trouble
found_answer places (Ok None) = Ok Absent
found_answer places (Ok (Some place)) = Ok (number_or_absent (place_number places place))
found_answer places (Err trouble) = Err trouble

-- the stores are asked in order
pub record CarriesFind (name : Name) (old new : Spreading) (told : Result Answer Trouble) : Type 0 where
  pub same : SameRooms old new
  pub found : Result (Option Place) Trouble
  pub asked : AsksInOrder name old.stores new.stores found
  pub told_so : told ≡ found_answer old.places found

-- no store has the name: one act on the room's store
abbrev pub RenamesAt : Place → Name → Result (Option Place) Trouble → List Stored → List Stored → Result Answer Trouble → Type 0
RenamesAt place to (Ok None) mid new told = ActsAt place.store (rename_room place.room to) mid new told
RenamesAt place to (Ok (Some other)) mid new told = (new ≡ mid) × (told ≡ Ok TargetThere)
RenamesAt place to (Err trouble) mid new told = (new ≡ mid) × (told ≡ Err trouble)

-- all stores are asked for the new name, and the room stays in its store
pub record Renames (place : Place) (to : Name) (old new : Spreading) (told : Result Answer Trouble) : Type 0 where
  pub same : SameRooms old new
  pub mid : List Stored
  pub found : Result (Option Place) Trouble
  pub asked : AsksInOrder to old.stores mid found
  pub renames : RenamesAt place to found mid new.stores told

abbrev pub CarriesRename : Option Place → Name → Spreading → Spreading → Result Answer Trouble → Type 0
CarriesRename None to old new told = (new ≡ old) × (told ≡ Ok NoRoom)
CarriesRename (Some place) to old new told = Renames place to old new told
