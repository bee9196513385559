-- What acts left that faulted.
use Rattle.std.specs.Prelude.{◌≡◌, ℕ, List, [], ◌∷◌, Option, Some, None}
use Rattle.store_api.specs.Acts.{Stored}
use Rattle.mount_model.specs.State.{State}
use Rattle.mount_model.specs.History.{Event}

-- by the number of the act: what it left, where it faulted
abbrev pub FaultPlan : Type 0
FaultPlan = ℕ → Option Stored

-- A call went as planned: it made no act; or it made one, where no fault is planned and none came; or it left what is
-- planned.
pub data GoesAsPlanned (plan : FaultPlan) (old new : Stored) : Type 0 where
  idle : new ≡ old → GoesAsPlanned plan old new
  well : plan old.acts ≡ None → new.faults ≡ old.faults → GoesAsPlanned plan old new
  badly : plan old.acts ≡ Some new → GoesAsPlanned plan old new

-- all calls did
abbrev pub KeepsTo : FaultPlan → State → List Event → Type 0
KeepsTo plan old [] = Unit {0}
KeepsTo plan old (event ∷ events) = GoesAsPlanned plan old.store event.after.store × KeepsTo plan event.after events
