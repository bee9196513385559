use Rattle.reader_laws.proofs.Gathered.Indices.Flats.{flattened_pieces}
use Rattle.reader_laws.proofs.readers.flattening_changes_nothing.Goals as goal

pub returns : goal.returns
returns c = flattened_pieces
