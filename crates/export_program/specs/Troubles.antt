-- A trouble that is told truly.
use Rattle.std.specs.Prelude.{◌≡◌}
use Rattle.plfs_types.specs.Counts.{HasRisen}
use Rattle.mount_model.specs.declared.stuck.Stuck.{Stuck as Trouble}
use Rattle.mount_model.specs.declared.stuck.Stuck.TheVariants as trouble
use Rattle.mount_model.specs.State.{State}
use Rattle.trouble_laws.specs.Undamaged.{IsNoDamage}
use Rattle.program_ends.specs.SoundTrees.{TellsSoundTree}

-- It is a fault only where the store's count of faults rose meanwhile, and no damage where the store told a sound tree before it was mounted.
pub record IsTrueTrouble (start : State) (why : Trouble) (end : State) : Type 0 where
  pub cause : why ≡ trouble.Fault → HasRisen start.store.faults end.store.faults
  pub undamaged : TellsSoundTree start.opened → IsNoDamage why
