-- How several stores are asked, one after the other, for a room of a name.
use Rattle.std.specs.Prelude.{◌≡◌, ◌≤◌, ◌<◌, ℕ, List, length, slice_get, Option, Some, None, Result, Ok, Err}
use Rattle.store_api.specs.declared.step.Answer.{Answer}
use Rattle.store_api.specs.declared.store.Trouble.{Trouble}
use Rattle.store_api.specs.Step.{Step, Name, find_room}
use Rattle.store_api.specs.Acts.{Stored, Acts}
use Rattle.spread_store.specs.declared.places.Place.{Place}
use Rattle.spread_store.specs.Asking.{ActsAt}
use Rattle.spread_store.specs.Finding.{number_told}

-- the store made the step, and gave such an answer
pub record HasAnswered (step : Step) (Fits : Answer → Type 0) (before after : Stored) : Type 0 where
  pub answer : Answer
  pub fits : Fits answer
  pub acts : Acts step before after (Ok answer)

-- the stores before this number have each made the step and given such an answer, and the others are as they were
pub record FirstAnswered (step : Step) (Fits : Answer → Type 0) (n : ℕ) (old new : List Stored) : Type 0 where
  pub answered : (i : ℕ) (before : Stored) → i < n → slice_get old i ≡ Some before → (after : Stored) × (slice_get new i ≡ Some after) × HasAnswered step Fits before after
  pub others : (i : ℕ) → n ≤ i → slice_get new i ≡ slice_get old i
  pub as_many : length new ≡ length old

-- it tells no room
abbrev pub TellsNone : Answer → Type 0
TellsNone answer = number_told answer ≡ None

-- one store is asked for the name
abbrev pub AsksOne : ℕ → Name → List Stored → List Stored → Result (Option ℕ) Trouble → Type 0
AsksOne store name old new (Ok told) = (answer : Answer) × (number_told answer ≡ told) × ActsAt store (find_room name) old new (Ok answer)
AsksOne store name old new (Err trouble) = ActsAt store (find_room name) old new (Err trouble)

-- the stores are asked in order, until one tells a room of the name, or breaks off
abbrev pub AsksInOrder : Name → List Stored → List Stored → Result (Option Place) Trouble → Type 0
AsksInOrder name old new (Ok None) = FirstAnswered (find_room name) TellsNone (length old) old new
AsksInOrder name old new (Ok (Some place)) =
    (mid : List Stored) × FirstAnswered (find_room name) TellsNone place.store old mid × AsksOne place.store name mid new (Ok (Some place.room))
AsksInOrder name old new (Err trouble) =
    (n : ℕ) × (mid : List Stored) × FirstAnswered (find_room name) TellsNone n old mid × AsksOne n name mid new (Err trouble)
