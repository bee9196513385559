use Rattle.store_laws.proofs.Steps.Writing.{write_cases}
use Rattle.store_laws.proofs.changes.writes_one_file.Goals as goal

pub returns : goal.returns
returns c = write_cases
