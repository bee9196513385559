-- What is asked of the system for each of some names, in their order.
use Rattle.std.specs.Prelude.{◌≡◌, ℕ, List, [], ◌∷◌, take, slice_get, Some}
use Rattle.folder_calls.specs.Calls.{Log}

-- the calls that are made for a name, as the log before them and the log after them
abbrev pub Asking : Type 0 → Type 1
Asking F = List ℕ → Log F → Log F → Type 0

module _ {F : Type 0} (asking : Asking F) where
  -- these calls were made for each of the names
  abbrev pub ForEach : List (List ℕ) → Log F → Log F → Type 0
  ForEach [] log later = later ≡ log
  ForEach (name ∷ names) log later = (between : Log F) × asking name log between × ForEach names between later

  -- these calls were made for the first of the names, and for the next one they failed so
  pub record FailsAtOne (failing : Asking F) (names : List (List ℕ)) (log later : Log F) : Type 0 where
    pub done : ℕ
    pub name : List ℕ
    pub between : Log F
    pub next : slice_get names done ≡ Some name
    pub made : ForEach (take done names) log between
    pub failed : failing name between later
