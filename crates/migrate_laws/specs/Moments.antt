-- The moments of a run: where a caller makes a call, and until where it has only looked.
use Rattle.std.specs.Prelude.{◌≡◌, ℕ, List, ◌∷◌, ◌++◌, Some}
use Rattle.std.specs.List.{AllByRecursion}
use Rattle.store_api.specs.declared.tree.Tree.{Tree}
use Rattle.store_laws.specs.There.{IsRoomOf}
use Rattle.mount_model.specs.Running.{unbroken}
use Rattle.mount_model.specs.declared.call.Call.{Call}
use Rattle.mount_model.specs.declared.call.Call.TheVariants.{Find, Greet, Look}
use Rattle.mount_model.specs.History.{Event, state_after}
use Rattle.mount_model.specs.Paths.{Name}
use Rattle.mount_model.specs.State.{State}

-- In this state, to which the run comes, the caller makes this call.
pub record Calls (caller : ℕ) (call : Call) (start : State) (events : List Event) (now : State) : Type 0 where
  pub before : List Event
  pub event : Event
  pub after : List Event
  pub split : events ≡ before ++ event ∷ after
  pub comes : state_after start before ≡ now
  pub own : event.caller ≡ caller
  pub asks : event.ask ≡ unbroken call

-- a call that makes nothing
abbrev pub IsLooking : Call → Type 0
IsLooking Greet = Unit {0}
IsLooking (Find name) = Unit {0}
IsLooking (Look room look) = Unit {0}
IsLooking call = ⊥

-- the calls of this caller among these make nothing
abbrev pub OnlyLooks : ℕ → List Event → Type 0
OnlyLooks caller events = AllByRecursion (λ (e : Event). e.caller ≡ caller → IsLooking e.ask.call) events

-- In this state, to which the run comes, the caller has only looked so far.
pub record HasLooked (caller : ℕ) (start : State) (events : List Event) (now : State) : Type 0 where
  pub before : List Event
  pub after : List Event
  pub split : events ≡ before ++ after
  pub comes : state_after start before ≡ now
  pub only : OnlyLooks caller before

-- the room of this number is the one that has the name, as the store tells its rooms
abbrev pub IsNamed : Name → ℕ → State → Type 0
IsNamed name number state = (tree : Tree) → state.store.tree ≡ Some tree → IsRoomOf tree name number
