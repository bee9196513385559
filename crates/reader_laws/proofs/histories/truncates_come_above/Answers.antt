use Rattle.reader_laws.proofs.Gathered.Moments.Bounds.{truncs_come_above}
use Rattle.reader_laws.proofs.histories.truncates_come_above.Goals as goal

pub returns : goal.returns
returns c = truncs_come_above
