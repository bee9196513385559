-- How a machine of a reader ends where it does not end well.
use Rattle.std.specs.Prelude.{◌≡◌, ◌⊎◌, ℕ, List}
use Rattle.std.specs.List.{Any}
use Rattle.plfs_types.specs.Counts.{HasRisen}
use Rattle.mount_model.specs.declared.reply.Refusal.TheVariants.{NoRoom}
use Rattle.mount_model.specs.declared.reply.Reply.TheVariants.{NoMemory}
use Rattle.container_layout.specs.declared.items.Item.TheVariants.{Access}
use Rattle.mount_model.specs.State.{State}
use Rattle.reader_laws.specs.Moments.{Moment, HadItem}
use Rattle.mount_model.specs.History.{Event, state_after}
use Rattle.mount_model.specs.declared.stuck.Stuck.{Stuck}
use Rattle.mount_model.specs.declared.stuck.Stuck.TheVariants.{Fault, Refused}

-- the room is a container's: its access file stood
abbrev pub IsContainerAt : Moment → ℕ → Type 0
IsContainerAt moment room = HadItem moment room Access

-- one of the caller's calls was answered with want of memory, after which a machine has no result
abbrev pub WantsMemory : ℕ → List Event → Type 0
WantsMemory caller events = Any (λ (e : Event). (e.caller ≡ caller) × (e.reply ≡ NoMemory)) events

-- it is a fault, and the store's count of faults rose meanwhile
abbrev pub FailsByStore : ℕ → State → List Event → Stuck → Type 0
FailsByStore caller start events why = (why ≡ Fault) × (HasRisen start.store.faults (state_after start events).store.faults ⊎ WantsMemory caller events)

-- so it is, or no container has that name or number
abbrev pub FailsOrLacks : ℕ → State → List Event → Stuck → Type 0
FailsOrLacks caller start events why = FailsByStore caller start events why ⊎ (why ≡ Refused NoRoom)
