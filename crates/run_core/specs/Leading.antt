-- Calls that lead from one state of a mount to another.
use Rattle.std.specs.Prelude.{◌≡◌, ℕ, List, [], ◌∷◌}
use Rattle.mount_model.specs.declared.call.Ask.{Ask}
use Rattle.mount_model.specs.declared.reply.Reply.{Reply}
use Rattle.mount_model.specs.State.{State}
use Rattle.mount_model.specs.History.{Event, state_after}
use Rattle.mount_sound.specs.Owed.{IsLawful}
pub use Rattle.mount_core.specs.Memory.{HadMemory}

-- these calls were made in this order, of each the caller owed no more than it met, and they lead from one state to the other
pub record Leads (old : State) (events : List Event) (new : State) : Type 0 where
  pub lawful : IsLawful old events
  pub ends : state_after old events ≡ new

-- some calls lead there
pub record GoesOn (old new : State) : Type 0 where
  pub events : List Event
  pub leads : Leads old events new

-- one call leads there
abbrev pub MadeCall : State → ℕ → Ask → Reply → State → Type 0
MadeCall old caller ask reply new = Leads old (record { caller = caller; ask = ask; reply = reply; after = new } ∷ []) new
