-- A part of a call's act, made from a state.
use Rattle.std.specs.Prelude.{◌≡◌, ℕ, ◌==◌, List, Option, Some, None, if◌then◌else◌}
use Rattle.store_api.specs.Step.{Step}
use Rattle.mount_model.specs.declared.call.Call.{Call}
use Rattle.mount_model.specs.declared.call.Call.TheVariants.{Mark}
use Rattle.mount_model.specs.State.{State}
use Rattle.mount_model.specs.Making.{Told}
use Rattle.mount_model.specs.Stopping.{part_made, begun, MakesPart, TicksFor}

-- the part was made, if any, and the store alone has changed since this state
pub record BreaksOff (part : Option Step) (from : State) (told : Told) (new : State) : Type 0 where
  pub made : MakesPart part from.store new.store told
  pub after : new ≡ record from { store = new.store }

-- all of the step, or nothing at 0
abbrev pub all_or_none : ℕ → Step → Option Step
all_or_none k step = if k == 0 then None else Some step

-- the same of a part that has the clock's time in it: the clock was asked where there is one, and has changed too
pub record BreaksTimed (part : ℕ → Option Step) (call : Call) (old : State) (told : Told) (new : State) : Type 0 where
  pub time : ℕ
  pub times : Option (List ℕ)
  pub ticks : TicksFor call (part time) old.times times time
  pub made : MakesPart (part time) old.store new.store told
  pub after : new ≡ record old { store = new.store; times = times }

-- a part of the call's act was made, from the state in which that is
abbrev pub BreaksCall : ℕ → State → ℕ → Call → Told → State → Type 0
BreaksCall k old caller (Mark holder size top) told new = BreaksTimed (λ time. part_made k time old caller (Mark holder size top)) (Mark holder size top) old told new
BreaksCall k old caller call told new = BreaksOff (part_made k 0 old caller call) (begun old call) told new
