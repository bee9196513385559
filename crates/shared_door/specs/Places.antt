-- The places of the processes, and the answers that wait there.
use Rattle.std.specs.Prelude.{◌≡◌, ◌<◌, ℕ, List, Bool, true, false, not, Option, Some, None, slice_get, set}
use Rattle.shared_door.specs.declared.board.Place.{Place}

-- the answer that waits at a place
abbrev pub answer_in : Option Place → Option (List ℕ)
answer_in None = None
answer_in (Some place) = place.answer

-- it is there and free
abbrev pub is_free_in : Option Place → Bool
is_free_in None = false
is_free_in (Some place) = not place.is_taken

-- none of the first so many places is free
abbrev pub NoneIsFree : List Place → ℕ → Type 0
NoneIsFree places count = (place : ℕ) → place < count → is_free_in (slice_get places place) ≡ false

-- no answer waits at it any more
abbrev pub silent : Place → Place
silent place = record { is_taken = place.is_taken; answer = None }

-- this one does
abbrev pub answering : List ℕ → Place → Place
answering bytes place = record { is_taken = place.is_taken; answer = Some bytes }

-- a process has it, and no answer waits
abbrev pub entered : Place → Place
entered place = record { is_taken = true; answer = None }

-- no process has it
abbrev pub left : Place → Place
left place = record { is_taken = false; answer = place.answer }

abbrev pub if_place : (Place → Place) → List Place → ℕ → Option Place → List Place
if_place change places n None = places
if_place change places n (Some place) = set places n (change place)

-- the places with this one changed so, where it is there
abbrev pub with_place : (Place → Place) → List Place → ℕ → List Place
with_place change places n = if_place change places n (slice_get places n)
