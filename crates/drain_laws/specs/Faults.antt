-- Drains that end in a fault.
use Rattle.std.specs.Prelude.{◌≡◌, ◌≢◌, ℕ, Err}
use Rattle.store_api.specs.declared.store.Trouble.TheVariants.{NoMemory as ToldNoMemory}
use Rattle.mount_model.specs.declared.reply.Reply.TheVariants.{NoMemory}
use Rattle.mount_model.specs.declared.stuck.Stuck.TheVariants as stuck
use Rattle.drain_copy.specs.declared.outcome.DrainStuck.TheVariants.{Source, TargetFault}
use Rattle.drain_copy.specs.Telling.{Outcome}
use Rattle.drain_sound.specs.Draining.{Happening, at_source, at_target}

-- the source failed, or the target
abbrev pub EndsInFault : Outcome → Type 0
EndsInFault (Err (Source stuck.Fault)) = Unit {0}
EndsInFault (Err TargetFault) = Unit {0}
EndsInFault outcome = ⊥

-- memory was not refused to the caller's call, nor to the act
abbrev pub WasServed : ℕ → Happening → Type 0
WasServed caller (at_source event) = event.caller ≡ caller → event.reply ≢ NoMemory
WasServed caller (at_target act) = act.answer ≢ Err ToldNoMemory
