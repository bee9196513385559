use Rattle.store_laws.proofs.Steps.Folders.{make_folder_cases}
use Rattle.store_laws.proofs.changes.makes_one_folder.Goals as goal

pub returns : goal.returns
returns c = make_folder_cases
