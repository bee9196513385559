use Rattle.reader_laws.proofs.Gathered.Samples.Sample.{gathering, lists_truncs, later}
use Rattle.reader_laws.proofs.Gathered.Samples.SampleReader.{start, cut, beside_torn_flush}
use Rattle.reader_laws.proofs.example.a_reader_opens_beside_a_torn_flush.Goals as goal

pub returns : goal.returns
returns c = (start, gathering, lists_truncs, later, cut, beside_torn_flush)
