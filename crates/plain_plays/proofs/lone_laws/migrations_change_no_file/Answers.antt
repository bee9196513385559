use Rattle.plain_plays.proofs.PlainSteps.Facts.{migrates_itself}
use Rattle.plain_plays.proofs.lone_laws.migrations_change_no_file.Goals as goal

pub returns : goal.returns
returns c m me p name events out lawful well by o runs = migrates_itself c.a_migration_leaves_no_writer_out.ensures m me p name o events out lawful well by runs
