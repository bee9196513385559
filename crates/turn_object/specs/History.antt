-- The history of an object: an entry for each call, in the one order in which the calls were made.
use Rattle.std.specs.Prelude.{◌≡◌, ℕ, List, [], ◌∷◌, ◌++◌}
use Rattle.turn_object.specs.declared.history.Entry.{Entry}

module _ {A R S : Type 0} where
  -- one call
  abbrev pub entry : ℕ → A → R → S → Entry A R S
  entry caller ask reply after = record { caller = caller; ask = ask; reply = reply; after = after }

  -- the state after these entries
  abbrev pub state_after : S → List (Entry A R S) → S
  state_after state [] = state
  state_after state (e ∷ es) = state_after e.after es

  -- the history begins with what was seen
  abbrev pub StartsWith : List (Entry A R S) → List (Entry A R S) → Type 0
  StartsWith history seen = (rest : List (Entry A R S)) × (history ≡ seen ++ rest)

  module _ (step : S → ℕ → A → R → S → Type 0) (may : S → ℕ → A → Type 0) where
    -- from this state on, each caller might ask what it asked, and the object did what it may do
    abbrev pub Happens : S → List (Entry A R S) → Type 0
    Happens state [] = Unit {0}
    Happens state (e ∷ es) = may state e.caller e.ask × step state e.caller e.ask e.reply e.after × Happens e.after es
