-- Calls of a mount that had memory.
use Rattle.std.specs.Prelude.{◌≢◌, List, [], ◌∷◌}
use Rattle.std.specs.List.{AllByRecursion}
use Rattle.mount_model.specs.declared.reply.Reply.TheVariants.{NoMemory}
use Rattle.mount_model.specs.History.{Event}

-- none of these calls was refused memory
abbrev pub HadMemory : List Event → Type 0
HadMemory events = AllByRecursion (λ (event : Event). event.reply ≢ NoMemory) events

-- none was, but for the last one perhaps
abbrev pub HadMemoryBeforeLast : List Event → Type 0
HadMemoryBeforeLast [] = Unit {0}
HadMemoryBeforeLast (event ∷ []) = Unit {0}
HadMemoryBeforeLast (event ∷ next ∷ later) = (event.reply ≢ NoMemory) × HadMemoryBeforeLast (next ∷ later)
