use Rattle.store_laws.proofs.Steps.Writing.{cut_cases}
use Rattle.store_laws.proofs.changes.cuts_one_file.Goals as goal

pub returns : goal.returns
returns c = cut_cases
