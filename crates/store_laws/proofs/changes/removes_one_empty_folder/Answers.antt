use Rattle.store_laws.proofs.Steps.Emptied.{remove_folder_cases}
use Rattle.store_laws.proofs.changes.removes_one_empty_folder.Goals as goal

pub returns : goal.returns
returns c = remove_folder_cases
