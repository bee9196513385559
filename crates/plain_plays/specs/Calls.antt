-- Moments and calls among some events.
use Rattle.std.specs.Prelude.{◌≡◌, ℕ, List, ◌∷◌, ◌++◌}
use Rattle.mount_model.specs.declared.call.Call.{Call}
use Rattle.mount_model.specs.declared.reply.Reply.{Reply}
use Rattle.mount_model.specs.History.{Event}
use Rattle.reader_laws.specs.Moments.{Moment, moment_after}

-- this held at some moment of these events
pub record AtSome (start : Moment) (events : List Event) (holds : Moment → Type 0) : Type 0 where
  pub before : List Event
  pub later : List Event
  pub split : events ≡ before ++ later
  pub held : holds (moment_after start before)

-- among these events the caller made this call, with this reply
pub record HasCalled (caller : ℕ) (call : Call) (reply : Reply) (events : List Event) : Type 0 where
  pub before : List Event
  pub event : Event
  pub later : List Event
  pub split : events ≡ before ++ event ∷ later
  pub own : event.caller ≡ caller
  pub asked : event.ask.call ≡ call
  pub told : event.reply ≡ reply
