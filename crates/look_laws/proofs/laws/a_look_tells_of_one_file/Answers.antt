use Rattle.look_laws.proofs.Telling.{told_run}
use Rattle.look_laws.proofs.laws.a_look_tells_of_one_file.Goals as goal

pub returns : goal.returns
returns c = told_run
