-- When a caller may make all calls of a drain.
use Rattle.std.specs.Prelude.{◌≡◌, ℕ, List, []}
use Rattle.turn_object.specs.Callers.{made_by}
use Rattle.mount_model.specs.declared.reply.Reply.{Reply}
use Rattle.mount_model.specs.History.{Event, state_after}
use Rattle.mount_model.specs.State.{State}
use Rattle.mount_model.specs.Step.{IsStep}
use Rattle.mount_sound.specs.Owed.{IsLawful, May}
use Rattle.mount_model.specs.Running.{unbroken}
use Rattle.drain_copy.specs.Asking.{acts, calls, ends}
use Rattle.mount_model.specs.Making.{Told}
use Rattle.drain_copy.specs.Telling.{DrainsOn}

-- From this state on the caller may make each call of the program, whatever lawful calls others make before it, and whatever is told
-- at the target.
abbrev pub MayDrain : ℕ → DrainsOn → State → Type 0
MayDrain caller (ends outcome) state = Unit {0}
MayDrain caller (calls call k) state = (others : List Event) → made_by caller others ≡ [] → IsLawful state others
    → May (state_after state others) caller (unbroken call) × ((reply : Reply) (after : State) → IsStep (state_after state others) caller (unbroken call) reply after → MayDrain caller (k reply) after)
MayDrain caller (acts step k) state = (told : Told) → MayDrain caller (k told) state
