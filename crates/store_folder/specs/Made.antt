-- How a store makes a step on its folder.
use Rattle.std.specs.Prelude.{◌≡◌}
use Rattle.store_api.specs.declared.step.Answer.{Answer}
use Rattle.store_api.specs.Step.{Step}
use Rattle.folder_calls.specs.Calls.{Log}
use Rattle.store_folder.specs.declared.disk.Disk.{Disk}
use Rattle.store_folder.specs.Rooms.{IsStill}
use Rattle.store_folder.specs.Steps.{Numbers, Performs}

-- The rooms got their numbers, unless they had them, and then the step was made, once. What the calls had told before
-- may have been forgotten at the start.
pub record MakesStep {C F : Type 0} (log : C → Log F) (old new : Disk C F) (step : Step) (answer : Answer) : Type 0 where
  pub start : Disk C F
  pub numbered : Disk C F
  pub same : IsStill old start
  pub uncalled : log start.calls ≡ log old.calls
  pub numbers : Numbers start numbered (log start.calls) (log numbered.calls)
  pub performs : Performs numbered new (log numbered.calls) (log new.calls) step answer
