-- A drain that one caller drives by itself, over the mount of its source and the store that is its target.
use Rattle.std.specs.Prelude.{◌≡◌, List, [], ◌∷◌, Result}
use Rattle.std.specs.List.{AllByRecursion}
use Rattle.store_api.specs.Acts.{Stored}
use Rattle.mount_model.specs.Paths.{Name}
use Rattle.mount_model.specs.State.{State}
use Rattle.mount_sound.specs.Ledger.{Ledger}
use Rattle.reader_laws.specs.Moments.{Moment}
use Rattle.drain_copy.specs.declared.outcome.Drained.{Drained}
use Rattle.drain_copy.specs.declared.outcome.DrainStuck.{DrainStuck}
use Rattle.drain_copy.specs.Asking.{ends}
use Rattle.drain_copy.specs.Draining.{drain_program}
use Rattle.drain_copy.specs.Telling.{DrainsOn}
use Rattle.drain_sound.specs.Draining.{Happening, at_source, at_target, source_after, target_after}
use Rattle.drain_laws.specs.Driving.{AreMade, Drives}
use Rattle.drain_laws.specs.Faults.{WasServed}

-- a call at the source is caller 0's
abbrev pub IsOwn : Happening → Type 0
IsOwn (at_source event) = event.caller ≡ 0
IsOwn (at_target act) = Unit {0}

-- memory was refused to none, but to the last one perhaps
abbrev pub WereServedBeforeLast : List Happening → Type 0
WereServedBeforeLast [] = Unit {0}
WereServedBeforeLast (h ∷ []) = Unit {0}
WereServedBeforeLast (h ∷ next ∷ later) = WasServed 0 h × WereServedBeforeLast (next ∷ later)

-- a state, and an account of what was issued until then
abbrev pub moment_of : Ledger → State → Moment
moment_of issued state = record { state = state; issued = issued }

-- Caller 0 by itself made these calls at the source's mount, and these steps were made at the target. They led from the ones to the others, and are those of a
-- drain of this container, in their order, of which that program is left. Of no call more was owed than was met.
pub record IsDriven (name : Name) (start : State) (target : Stored) (happened : List Happening) (left : DrainsOn) (end : State) (target_end : Stored) : Type 0 where
  pub own : AllByRecursion IsOwn happened
  pub made : (issued : Ledger) → AreMade (moment_of issued start) target happened
  pub drives : Drives 0 (drain_program name) happened left
  pub ends_source : (issued : Ledger) → (source_after (moment_of issued start) happened).state ≡ end
  pub ends_target : target_after target happened ≡ target_end

-- so the drain came to its end, and none of all that was refused memory
pub record DrainsTo (name : Name) (start : State) (target : Stored) (outcome : Result Drained DrainStuck) (end : State) (target_end : Stored) : Type 0 where
  pub happened : List Happening
  pub driven : IsDriven name start target happened (ends outcome) end target_end
  pub had_memory : AllByRecursion (WasServed 0) happened

-- so it was begun, and broken off: only the last one may have been refused memory
pub record BeginsToDrain (name : Name) (start : State) (target : Stored) (end : State) (target_end : Stored) : Type 0 where
  pub happened : List Happening
  pub left : DrainsOn
  pub driven : IsDriven name start target happened left end target_end
  pub had_memory : WereServedBeforeLast happened
