-- What a packing did, however it ended.
use Rattle.std.specs.Prelude.{List}
use Rattle.mount_model.specs.History.{Event}
use Rattle.mount_model.specs.State.{State}
use Rattle.mount_core.specs.Memory.{HadMemoryBeforeLast}
use Rattle.lone_flow.specs.Driving.{AreMade}

-- From one state to the other caller 0 by itself made calls, of each of which it owed no more than it met. Only the last one may have been refused memory.
pub record HasCalled (start end : State) : Type 0 where
  pub events : List Event
  pub made : AreMade start events end
  pub had_memory : HadMemoryBeforeLast events
