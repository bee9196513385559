-- Who calls in a history, and under which number.
use Rattle.std.specs.Prelude.{◌≡◌, ℕ, ◌+◌, ◌≤◌, ◌==◌, Bool, List, [], ◌∷◌, length, Option, Some, None}
use Rattle.std.specs.List.{filter}
use Rattle.turn_object.specs.declared.history.Entry.{Entry}

module _ {A R S : Type 0} where
  -- whether this caller made the call
  abbrev pub is_by : ℕ → Entry A R S → Bool
  is_by caller e = e.caller == caller

  -- the entries of one caller
  abbrev pub made_by : ℕ → List (Entry A R S) → List (Entry A R S)
  made_by caller entries = filter (is_by caller) entries

  -- a caller's number is the place of its first entry: that of these entries, or this place where there are none yet
  abbrev pub number_or : List (Entry A R S) → ℕ → ℕ
  number_or [] place = place
  number_or (e ∷ es) place = e.caller

  -- the number of the caller whose entries these are, once it has one
  abbrev pub own_number : List (Entry A R S) → Option ℕ
  own_number [] = None
  own_number (e ∷ es) = Some e.caller

  -- this is the number of the caller whose entries these are
  abbrev pub IsOwn : List (Entry A R S) → ℕ → Type 0
  IsOwn [] caller = ⊥
  IsOwn (e ∷ es) caller = e.caller ≡ caller

  -- these are entries of this caller, or there are none yet
  abbrev pub MayBeOf : List (Entry A R S) → ℕ → Type 0
  MayBeOf [] caller = Unit {0}
  MayBeOf (e ∷ es) caller = caller ≡ e.caller

  -- whose entries these are calls under this number next: its own, or while it has none one that nobody had in what was seen
  abbrev pub MayCallAs : List (Entry A R S) → List (Entry A R S) → ℕ → Type 0
  MayCallAs seen [] caller = length seen ≤ caller
  MayCallAs seen (e ∷ es) caller = caller ≡ e.caller

  -- from this place on, no caller's number is above its entry's place
  abbrev pub AreNumbered : ℕ → List (Entry A R S) → Type 0
  AreNumbered place [] = Unit {0}
  AreNumbered place (e ∷ es) = (e.caller ≤ place) × AreNumbered (place + 1) es
