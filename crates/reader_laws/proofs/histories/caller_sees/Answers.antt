use Rattle.reader_laws.proofs.Gathered.Moments.Seeing.{seen}
use Rattle.reader_laws.proofs.histories.caller_sees.Goals as goal

pub returns : goal.returns
returns c = seen
