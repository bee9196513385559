use Rattle.reader_laws.proofs.Gathered.Moments.Placing.{follows}
use Rattle.reader_laws.proofs.histories.moments_follow_histories.Goals as goal

pub returns : goal.returns
returns c = follows
