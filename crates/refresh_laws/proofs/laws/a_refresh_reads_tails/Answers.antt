use Rattle.refresh_laws.proofs.PastLemmas.{all_past}
use Rattle.refresh_laws.proofs.laws.a_refresh_reads_tails.Goals as goal

pub returns : goal.returns
returns c = all_past
