-- In which call an actor is stopped, where a stop is armed for a statement.
use Rattle.std.specs.Prelude.{◌≡◌, ◌<◌, ◌+◌, List, [], ◌∷◌, ◌++◌, length, Some, None}
use Rattle.std.specs.List.{AllByRecursion}
use Rattle.mount_model.specs.History.{Event}
use Rattle.script_lang.specs.declared.line.Outcome.{Outcome}
use Rattle.script_lang.specs.declared.line.Outcome.TheVariants.{Stopped}
use Rattle.actor_core.specs.declared.kept.Stop.{Stop}

-- none of these calls is broken off
abbrev pub AreUnbroken : List Event → Type 0
AreUnbroken calls = AllByRecursion (λ (e : Event). e.ask.stop ≡ None) calls

-- The statement made fewer calls than the number of the stop, and none was broken off. Or the call of this number was, after so many bytes. It was the last one, and the
-- line tells of the stop.
pub data StopsInTime (stop : Stop) (calls : List Event) (outcome : Outcome) : Type 0 where
  early : length calls < stop.call → AreUnbroken calls → StopsInTime stop calls outcome
  broken : (before : List Event) (last : Event) → calls ≡ before ++ last ∷ [] → length before + 1 ≡ stop.call → AreUnbroken before → last.ask.stop ≡ Some stop.bytes → outcome ≡ Stopped → StopsInTime stop calls outcome
