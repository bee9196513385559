use Rattle.reader_laws.proofs.Calls.Histories.{truncs_listed}
use Rattle.reader_laws.proofs.laws.truncates_are_listed.Goals as goal

pub returns : goal.returns
returns c = truncs_listed
