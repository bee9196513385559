use Rattle.store_laws.proofs.Looks.Answering.{look_told}
use Rattle.store_laws.proofs.answers.looks_change_nothing.Goals as goal

pub returns : goal.returns
returns c = look_told
