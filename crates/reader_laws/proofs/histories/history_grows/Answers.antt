use Rattle.reader_laws.proofs.Gathered.Moments.Seeing.{grows_after}
use Rattle.reader_laws.proofs.histories.history_grows.Goals as goal

pub returns : goal.returns
returns c = grows_after
