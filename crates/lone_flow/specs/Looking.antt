-- A caller that only looks.
use Rattle.std.specs.Prelude.{List}
use Rattle.std.specs.List.{AllByRecursion}
use Rattle.mount_model.specs.declared.call.Call.{Call}
use Rattle.mount_model.specs.declared.call.Call.TheVariants.{Greet, Find, Look}
use Rattle.mount_model.specs.History.{Event}
use Rattle.mount_model.specs.State.{State}
use Rattle.lone_flow.specs.Driving.{AreMade}

-- the call greets, finds a container, or looks into one
abbrev pub GreetsOrLooks : Call → Type 0
GreetsOrLooks Greet = Unit {0}
GreetsOrLooks (Find name) = Unit {0}
GreetsOrLooks (Look room look) = Unit {0}
GreetsOrLooks call = ⊥

-- From one state to the other caller 0 by itself made no calls but greetings and looks.
pub record HasLooked (start end : State) : Type 0 where
  pub events : List Event
  pub made : AreMade start events end
  pub looks : AllByRecursion (λ (event : Event). GreetsOrLooks event.ask.call) events
