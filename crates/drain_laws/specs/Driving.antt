-- How a drain is driven: its calls are made at the source, its steps at the target, and it goes on with what was replied or told.
use Rattle.std.specs.Prelude.{◌≡◌, ◌⊎◌, ℕ, List, [], ◌∷◌}
use Rattle.store_api.specs.Acts.{Acts, Stored}
use Rattle.mount_model.specs.declared.reply.Reply.TheVariants.{Room}
use Rattle.mount_model.specs.History.{Event}
use Rattle.mount_sound.specs.Owed.{IsLawful}
use Rattle.mount_model.specs.Running.{unbroken}
use Rattle.reader_laws.specs.Moments.{Moment, next_moment}
use Rattle.drain_copy.specs.Asking.{acts, calls}
use Rattle.drain_copy.specs.Telling.{DrainsOn}
use Rattle.drain_sound.specs.Draining.{Act, Happening, at_source, at_target}

-- the call of this event is the program's next question, and with its reply it goes on so
abbrev pub IsReplied : DrainsOn → Event → DrainsOn → Type 0
IsReplied (calls call k) event next = (event.ask ≡ unbroken call) × (next ≡ k event.reply)
IsReplied program event next = ⊥

-- so is the step of this act, and with what it told it goes on so
abbrev pub IsTold : DrainsOn → Act → DrainsOn → Type 0
IsTold (acts step k) act next = (act.step ≡ step) × (next ≡ k act.answer)
IsTold program act next = ⊥

-- In these happenings the caller's calls and the acts at the target are those of this program, in order, and that one is left of it.
-- Others call at the source.
abbrev pub Drives : ℕ → DrainsOn → List Happening → DrainsOn → Type 0
Drives caller program [] left = left ≡ program
Drives caller program (at_source event ∷ rest) left =
    ((event.caller ≡ caller → ⊥) × Drives caller program rest left)
    ⊎ ((event.caller ≡ caller) × ((next : DrainsOn) × IsReplied program event next × Drives caller next rest left))
Drives caller program (at_target act ∷ rest) left = (next : DrainsOn) × IsTold program act next × Drives caller next rest left

-- each call at the source is lawful, and each act is one of the target's store
abbrev pub AreMade : Moment → Stored → List Happening → Type 0
AreMade source store [] = Unit {0}
AreMade source store (at_source event ∷ rest) = IsLawful source.state (event ∷ []) × AreMade (next_moment source event) store rest
AreMade source store (at_target act ∷ rest) = Acts act.step store act.after act.answer × AreMade source act.after rest

-- the room that the caller finds by its name, if it finds one, has this number
abbrev pub FindsRoom : ℕ → ℕ → List Happening → Type 0
FindsRoom caller number [] = Unit {0}
FindsRoom caller number (at_source event ∷ rest) = (event.caller ≡ caller → (room : ℕ) → event.reply ≡ Room room → room ≡ number) × FindsRoom caller number rest
FindsRoom caller number (at_target act ∷ rest) = FindsRoom caller number rest
