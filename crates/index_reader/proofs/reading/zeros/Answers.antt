use Rattle.index_reader.proofs.ZeroLemmas.{zeros_taken}
use Rattle.index_reader.proofs.reading.zeros.Goals as goal

pub returns : goal.returns
returns c = zeros_taken c.args.len 4096 c.requires
