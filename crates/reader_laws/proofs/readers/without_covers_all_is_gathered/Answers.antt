use Rattle.reader_laws.proofs.Gathered.Indices.Flats.{uncovered_tails}
use Rattle.reader_laws.proofs.readers.without_covers_all_is_gathered.Goals as goal

pub returns : goal.returns
returns c = uncovered_tails
