use Rattle.store_laws.proofs.Steps.Moving.{replace_cases}
use Rattle.store_laws.proofs.changes.moves_one_file.Goals as goal

pub returns : goal.returns
returns c = replace_cases
