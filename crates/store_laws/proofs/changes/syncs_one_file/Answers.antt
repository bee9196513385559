use Rattle.store_laws.proofs.Steps.Syncing.{sync_cases}
use Rattle.store_laws.proofs.changes.syncs_one_file.Goals as goal

pub returns : goal.returns
returns c = sync_cases
