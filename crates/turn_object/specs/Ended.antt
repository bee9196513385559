-- Callers that ended.
use Rattle.std.specs.Prelude.{◌≡◌, ◌≢◌, List, [], ◌∷◌}
use Rattle.std.specs.List.{All}
use Rattle.turn_object.specs.declared.history.Entry.{Entry}
use Rattle.turn_object.specs.declared.history.Ended.{Ended}
use Rattle.turn_object.specs.Callers.{made_by}

module _ {A R S : Type 0} where
  -- the caller with these entries as one that ended, if it had made a call
  abbrev pub as_ended : List (Entry A R S) → List (Ended A R S)
  as_ended [] = []
  as_ended (e ∷ es) = record { number = e.caller; entries = e ∷ es } ∷ []

  -- what was kept of a caller that ended is all that it has here
  abbrev pub EndedIn : List (Entry A R S) → Ended A R S → Type 0
  EndedIn seen gone = made_by gone.number seen ≡ gone.entries

  -- the numbers of these callers differ
  abbrev pub AreApart : List (Ended A R S) → Type 0
  AreApart [] = Unit {0}
  AreApart (gone ∷ others) = All (λ (other : Ended A R S). other.number ≢ gone.number) others × AreApart others
