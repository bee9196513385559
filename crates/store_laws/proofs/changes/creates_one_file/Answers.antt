use Rattle.store_laws.proofs.Steps.Creating.{create_cases}
use Rattle.store_laws.proofs.changes.creates_one_file.Goals as goal

pub returns : goal.returns
returns c = create_cases
