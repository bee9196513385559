use Rattle.trouble_laws.proofs.Facts.{close_ends, flatten_ends, migrate_ends, open_ends, recover_ends, rename_ends, sync_ends, tell_ends, truncate_ends, write_ends}
use Rattle.trouble_laws.proofs.laws.a_statement_shows_no_damage.Goals as goal

pub returns-clause-open : goal.returns-clause-open
returns-clause-open c name host cap caller issued start = open_ends caller name host cap start issued

pub returns-clause-write : goal.returns-clause-write
returns-clause-write c handle at bytes caller issued start = write_ends caller handle at bytes start issued

pub returns-clause-sync : goal.returns-clause-sync
returns-clause-sync c handle caller issued start = sync_ends caller handle start issued

pub returns-clause-close : goal.returns-clause-close
returns-clause-close c handle caller issued start = close_ends caller handle start issued

pub returns-clause-truncate : goal.returns-clause-truncate
returns-clause-truncate c name size caller issued start = truncate_ends caller name size start issued

pub returns-clause-rename : goal.returns-clause-rename
returns-clause-rename c name to caller issued start = rename_ends caller name to start issued

pub returns-clause-recover : goal.returns-clause-recover
returns-clause-recover c name caller issued start = recover_ends caller name start issued

pub returns-clause-flatten : goal.returns-clause-flatten
returns-clause-flatten c name caller issued start = flatten_ends caller name start issued

pub returns-clause-migrate : goal.returns-clause-migrate
returns-clause-migrate c name caller issued start = migrate_ends caller name start issued

pub returns-clause-tell : goal.returns-clause-tell
returns-clause-tell c name caller issued start = tell_ends caller name start issued
