use Rattle.reader_laws.proofs.Gathered.Moments.Bounds.{landed_most}
use Rattle.reader_laws.proofs.histories.nothing_lands_unflushed.Goals as goal

pub returns : goal.returns
returns c = landed_most
