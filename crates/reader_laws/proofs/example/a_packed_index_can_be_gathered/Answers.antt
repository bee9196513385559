use Rattle.reader_laws.proofs.Gathered.Samples.PackSample.{gathers_packed}
use Rattle.reader_laws.proofs.example.a_packed_index_can_be_gathered.Goals as goal

pub returns : goal.returns
returns c = gathers_packed
