-- A migration that one caller made by itself.
use Rattle.std.specs.Prelude.{List, ℕ, Result, IfOk}
use Rattle.mount_model.specs.declared.stuck.Stuck.{Stuck}
use Rattle.mount_model.specs.State.{State}
use Rattle.mount_sound.specs.Sound.{IsClean}
use Rattle.migrate_core.specs.declared.migrated.Migrated.{Migrated}
use Rattle.migrate_core.specs.Migrating.{migrate_program}
use Rattle.migrate_laws.specs.Migrated.{HasMigrated}
use Rattle.lone_flow.specs.Driving.{Makes}

-- Caller 0 by itself greeted and made the calls of a migration of this file, which ended so. Where the store told a sound
-- tree, these calls packed the container of the name, and left no writer out.
pub record Migrates (name : List ℕ) (start : State) (ended : Result Migrated Stuck) (end : State) : Type 0 where
  pub made : Makes (migrate_program name) start ended end
  pub shows : IsClean start → IfOk ended (λ out. HasMigrated 0 name start made.events out)
