-- Where the machine of a migration stands in its program.
use Rattle.std.specs.Prelude.{ℕ, Result}
use Rattle.mount_model.specs.declared.stuck.Stuck.{Stuck}
use Rattle.mount_model.specs.Standing.{Standing}
use Rattle.mount_model.specs.declared.call.Call.{Call}
use Rattle.mount_model.specs.declared.reply.Reply.{Reply}
use Rattle.migrate_core.specs.declared.migrated.Migrated.{Migrated}
use Rattle.migrate_core.specs.declared.migrating.MigrateFlow.{MigrateFlow}
use Rattle.migrate_core.specs.Stages.{calls_left, migrating}

abbrev pub migrate_standing : MigrateFlow → Standing Call Reply (Result Migrated Stuck)
migrate_standing flow = migrating flow.stage

abbrev pub migrate_left : MigrateFlow → ℕ
migrate_left flow = calls_left flow.stage
