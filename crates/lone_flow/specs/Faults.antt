-- A migration that ended with a failure of the store.
use Rattle.std.specs.Prelude.{◌≡◌, Result, Err}
use Rattle.mount_model.specs.declared.stuck.Stuck.{Stuck}
use Rattle.mount_model.specs.declared.stuck.Stuck.TheVariants.{Fault}

-- it ended with a fault
abbrev pub IsFault : {R : Type 0} → Result R Stuck → Type 0
IsFault result = result ≡ Err Fault
