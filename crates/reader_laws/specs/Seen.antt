-- What one caller sees of a history: its own calls, and that all went on between them.
use Rattle.std.specs.Prelude.{◌≡◌, ℕ, List, [], ◌∷◌, ◌++◌, ◌==◌, if◌then◌else◌}
use Rattle.mount_model.specs.declared.call.Ask.{Ask}
use Rattle.mount_model.specs.declared.reply.Reply.{Reply}
use Rattle.mount_model.specs.Step.{IsStep}
use Rattle.mount_model.specs.History.{Event}
use Rattle.reader_laws.specs.Moments.{Moment, IsSoundAt, Grows}

-- a call, broken off or not, and its reply
pub record Asked : Type 0 where
  pub ask : Ask
  pub reply : Reply

abbrev pub asked_in : Event → Asked
asked_in event = record { ask = event.ask; reply = event.reply }

-- the calls that one caller made, in order
abbrev pub calls_of : ℕ → List Event → List Asked
calls_of caller [] = []
calls_of caller (event ∷ events) = if event.caller == caller then asked_in event ∷ calls_of caller events else calls_of caller events

-- One call of the caller: others went on before it, the state was sound, and it was a step of the mount.
pub record IsSeenCall (caller : ℕ) (start : Moment) (asked : Asked) (next : Moment) : Type 0 where
  pub before : Moment
  pub waits : Grows start before
  pub sound : IsSoundAt before
  pub answers : IsStep before.state caller asked.ask asked.reply next.state
  pub goes : Grows before next

-- The calls, one after the other, from one moment to another.
abbrev pub IsSeen : ℕ → Moment → List Asked → Moment → Type 0
IsSeen caller start [] end = Grows start end
IsSeen caller start (asked ∷ rest) end = (next : Moment) × IsSeenCall caller start asked next × IsSeen caller next rest end

-- The place of one call of a caller in a history, with the caller's calls before it and after it.
pub record IsPlaceOf (caller : ℕ) (events : List Event) (before : List Asked) (asked : Asked) (after : List Asked) : Type 0 where
  pub first : List Event
  pub event : Event
  pub rest : List Event
  pub split : events ≡ first ++ event ∷ rest
  pub by_caller : event.caller ≡ caller
  pub is : asked_in event ≡ asked
  pub calls_before : calls_of caller first ≡ before
  pub calls_after : calls_of caller rest ≡ after
