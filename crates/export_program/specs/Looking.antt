-- Calls that change nothing.
use Rattle.std.specs.Prelude.{List}
use Rattle.std.specs.List.{AllByRecursion}
use Rattle.mount_model.specs.declared.call.Call.{Call}
use Rattle.mount_model.specs.declared.call.Call.TheVariants.{Find, Greet, Look, Rooms}
use Rattle.mount_model.specs.History.{Event}
use Rattle.mount_model.specs.State.{State}
use Rattle.lone_flow.specs.Driving.{AreMade}

-- the call greets, names all containers, finds one, or looks into one
abbrev pub ChangesNothing : Call → Type 0
ChangesNothing Greet = Unit {0}
ChangesNothing Rooms = Unit {0}
ChangesNothing (Find name) = Unit {0}
ChangesNothing (Look room look) = Unit {0}
ChangesNothing call = ⊥

-- From one state to the other caller 0 by itself made such calls alone.
pub record HasOnlyLooked (start end : State) : Type 0 where
  pub events : List Event
  pub made : AreMade start events end
  pub look : AllByRecursion (λ (event : Event). ChangesNothing event.ask.call) events
