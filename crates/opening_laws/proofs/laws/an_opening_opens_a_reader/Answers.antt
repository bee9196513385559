use Rattle.opening_laws.proofs.Openings.{opening_ends}
use Rattle.opening_laws.proofs.laws.an_opening_opens_a_reader.Goals as goal

pub returns : goal.returns
returns c = λ caller workers name start events ended some lawful sound runs. opening_ends caller workers name start some sound events ended lawful runs
