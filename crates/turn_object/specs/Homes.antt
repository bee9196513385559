-- Where the slot is: at home, or out with a pass.
use Rattle.std.specs.Prelude.{◌≡◌, ℕ, List, [], ◌∷◌, Option, Some}
use mathlib.Core.Option as at
use lib.ListN.{get_elem?}
use Rattle.turn_object.specs.declared.front.Front.{Front}
use Rattle.turn_object.specs.declared.front.Stage.TheVariants.{Serving}
use Rattle.turn_object.specs.declared.slot.Resting.{Resting}

module _ {A R S : Type 0} where
  -- the slot is at home, and has the object in this state
  abbrev pub IsHome : List (at.Option (Option (Resting A R S))) → S → Type 0
  IsHome homes state = (resting : Resting A R S) × (homes ≡ at.some (Some resting) ∷ []) × (resting.object ≡ state)

  -- the slot is out with the pass that has the ticket that is served
  abbrev pub IsOut : List (at.Option (Option (Resting A R S))) → List (Front A R S) → ℕ → Type 0
  IsOut homes fronts served =
      (homes ≡ at.none ∷ []) × ((seat : ℕ) × (v : Front A R S) × (get_elem? fronts seat ≡ at.some v) × (v.stage ≡ Serving served))
