-- What happens at both sides while a drain runs.
use Rattle.std.specs.Prelude.{◌≡◌, ℕ, List, [], ◌∷◌, Some, Result}
use Rattle.store_api.specs.declared.step.Answer.{Answer}
use Rattle.store_api.specs.declared.store.Trouble.{Trouble}
use Rattle.store_api.specs.declared.tree.Tree.{Tree}
use Rattle.store_api.specs.Acts.{Acts, Stored}
use Rattle.store_api.specs.Loss.{Loses}
use Rattle.store_api.specs.Step.{Step}
use Rattle.mount_model.specs.History.{Event}
use Rattle.mount_model.specs.Paths.{Name}
use Rattle.mount_sound.specs.Owed.{IsLawful}
use Rattle.reader_laws.specs.Moments.{Moment, next_moment}
use Rattle.drain_sound.specs.Fronts.{IsTarget}
use Rattle.drain_sound.specs.Steps.{IsDrainStep}

-- an act at the target: the step, what was answered, and what the store is after it
pub record Act : Type 0 where
  pub step : Step
  pub answer : Result Answer Trouble
  pub after : Stored

-- a call at the source, the drain's or another's, or an act of the drain at the target
pub data Happening : Type 0 where
  at_source : Event → Happening
  at_target : Act → Happening

-- the source after it, and the target's store
abbrev pub source_after : Moment → List Happening → Moment
source_after source [] = source
source_after source (at_source event ∷ rest) = source_after (next_moment source event) rest
source_after source (at_target act ∷ rest) = source_after source rest

abbrev pub target_after : Stored → List Happening → Stored
target_after store [] = store
target_after store (at_source event ∷ rest) = target_after store rest
target_after store (at_target act ∷ rest) = target_after act.after rest

-- Each call at the source is lawful, and nobody but the drain changes the target, whose acts are steps of a drain. They may be
-- answered in any way, and the list may end anywhere.
abbrev pub IsDraining : Moment → ℕ → Name → Stored → List Happening → Type 0
IsDraining source number name store [] = Unit {0}
IsDraining source number name store (at_source event ∷ rest) = IsLawful source.state (event ∷ []) × IsDraining (next_moment source event) number name store rest
IsDraining source number name store (at_target act ∷ rest) =
    Acts act.step store act.after act.answer × ((tree : Tree) → store.tree ≡ Some tree → IsDrainStep source number name tree act.step) × IsDraining source number name act.after rest

-- The store tells a target of drains, and so is each tree that a loss of power leaves of it.
pub record HoldsTarget (source : Moment) (number : ℕ) (name : Name) (store : Stored) : Type 0 where
  pub tree : Tree
  pub told : store.tree ≡ Some tree
  pub target : IsTarget source number name tree
  pub lost : (left : Tree) → Loses tree left → IsTarget source number name left
