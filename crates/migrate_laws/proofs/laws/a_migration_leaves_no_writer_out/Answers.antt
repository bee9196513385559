use Rattle.migrate_laws.proofs.Showing.{what_it_shows}
use Rattle.migrate_laws.proofs.laws.a_migration_leaves_no_writer_out.Goals as goal

pub returns : goal.returns
returns c = what_it_shows
