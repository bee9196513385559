use Rattle.reader_laws.proofs.Gathered.Moments.Bounds.{trunc_stays}
use Rattle.reader_laws.proofs.histories.truncates_stay.Goals as goal

pub returns : goal.returns
returns c = trunc_stays
