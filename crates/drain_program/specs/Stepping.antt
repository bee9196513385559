-- What one question of a drain comes to.
use Rattle.std.specs.Prelude.{◌≡◌, ◌≢◌, Bool, true, false, List, Err}
use Rattle.std.specs.List.{AllByRecursion}
use Rattle.store_api.specs.declared.store.Trouble.TheVariants.{NoMemory as ToldNoMemory}
use Rattle.store_api.specs.Acts.{Acts, Stored}
use Rattle.store_api.specs.Step.{Step}
use Rattle.mount_model.specs.declared.call.Call.{Call}
use Rattle.mount_model.specs.declared.reply.Reply.{Reply}
use Rattle.mount_model.specs.declared.reply.Reply.TheVariants.{NoMemory}
use Rattle.mount_model.specs.Paths.{Name}
use Rattle.mount_model.specs.State.{State}
use Rattle.mount_model.specs.Step.{IsStep}
use Rattle.mount_model.specs.Running.{unbroken}
use Rattle.drain_copy.specs.Asking.{acts, calls}
use Rattle.mount_model.specs.Making.{Told}
use Rattle.drain_copy.specs.Standing.{GoesOnAfter, GoesOnTold, HasEnded, Standing, awaits_answer, awaits_reply, ready}
use Rattle.drain_copy.specs.Telling.{DrainsOn}
use Rattle.drain_laws.specs.Allowed.{MayDrain}
use Rattle.drain_sound.specs.Draining.{Happening}
use Rattle.drain_laws.specs.Faults.{WasServed}
use Rattle.drain_program.specs.Driven.{IsDriven}

-- caller 0 made the call, and the drain goes on with the reply, which was not want of memory
pub record IsCalled (call : Call) (old : Standing) (state : State) (new : Standing) (now : State) : Type 0 where
  pub reply : Reply
  pub had_memory : reply ≢ NoMemory
  pub step : IsStep state 0 (unbroken call) reply now
  pub goes_on : GoesOnAfter old reply new

-- the step was made, and the drain goes on with what it told, which was not want of memory
pub record IsActed (step : Step) (old : Standing) (store : Stored) (new : Standing) (left : Stored) : Type 0 where
  pub told : Told
  pub had_memory : told ≢ Err ToldNoMemory
  pub acted : Acts step store left told
  pub goes_on : GoesOnTold old told new

-- the next question was asked, of the one or of the other
abbrev pub IsAsked : Standing → State → Stored → Standing → State → Stored → Type 0
IsAsked (ready (calls call k)) state store new now left = IsCalled call (awaits_reply k) state new now × (left ≡ store)
IsAsked (ready (acts step k)) state store new now left = IsActed step (awaits_answer k) store new left × (now ≡ state)
IsAsked old state store new now left = ⊥

-- there was a question, or the drain has ended
abbrev pub GoesOnOrEnds : Bool → Standing → State → Stored → Standing → State → Stored → Type 0
GoesOnOrEnds true old state store new now left = IsAsked old state store new now left
GoesOnOrEnds false old state store new now left = HasEnded new × (new ≡ old) × (now ≡ state) × (left ≡ store)

-- caller 0 made the call
abbrev pub WasCalled : Call → State → State → Type 0
WasCalled call state now = (reply : Reply) × IsStep state 0 (unbroken call) reply now

-- the step was made
abbrev pub WasActed : Step → Stored → Stored → Type 0
WasActed step store left = (told : Told) × Acts step store left told

-- the next question was asked, and then memory was wanting
abbrev pub BreaksOff : Standing → State → Stored → State → Stored → Type 0
BreaksOff (ready (calls call k)) state store now left = WasCalled call state now × (left ≡ store)
BreaksOff (ready (acts step k)) state store now left = WasActed step store left × (now ≡ state)
BreaksOff old state store now left = ⊥

-- So far: all that happened led here, where this program is left, each of whose calls may be made.
pub record Nears (name : Name) (start : State) (target : Stored) (left : DrainsOn) (now : State) (store : Stored) : Type 0 where
  pub may : MayDrain 0 left now
  pub happened : List Happening
  pub driven : IsDriven name start target happened left now store
  pub had_memory : AllByRecursion (WasServed 0) happened

-- the same of a drain that stands so
abbrev pub NearsBy : Name → State → Stored → Standing → State → Stored → Type 0
NearsBy name start target (ready left) now store = Nears name start target left now store
NearsBy name start target standing now store = ⊥
