use Rattle.store_laws.proofs.Steps.Removing.{remove_cases}
use Rattle.store_laws.proofs.changes.removes_one_file.Goals as goal

pub returns : goal.returns
returns c = remove_cases
