use Rattle.reader_laws.proofs.Gathered.Moments.LaterTruncates.{later_truncates}
use Rattle.reader_laws.proofs.readers.later_truncates_are_above.Goals as goal

pub returns : goal.returns
returns c = later_truncates
