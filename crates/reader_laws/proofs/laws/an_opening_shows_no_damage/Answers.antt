use Rattle.reader_laws.proofs.Faults.OpeningFails.{opening_fails}
use Rattle.reader_laws.proofs.laws.an_opening_shows_no_damage.Goals as goal

pub returns : goal.returns
returns c = opening_fails
