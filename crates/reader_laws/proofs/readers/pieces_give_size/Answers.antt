use Rattle.reader_laws.proofs.Gathered.OpenReaders.Answering.{size_of_pieces}
use Rattle.reader_laws.proofs.readers.pieces_give_size.Goals as goal

pub returns : goal.returns
returns c = size_of_pieces
