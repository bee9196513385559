use Rattle.reader_laws.proofs.Faults.ShareFails.{shares_fail, truncates_fail}
use Rattle.reader_laws.proofs.laws.shares_and_truncates_fail_by_store.Goals as goal

pub returns-clause-shares : goal.returns-clause-shares
returns-clause-shares c = shares_fail

pub returns-clause-truncates : goal.returns-clause-truncates
returns-clause-truncates c = truncates_fail
