use Rattle.migrate_laws.proofs.Migrating.{safe_migration}
use Rattle.migrate_laws.proofs.laws.a_migration_is_always_allowed.Goals as goal

pub returns : goal.returns
returns c = safe_migration
