use Rattle.recovery_laws.proofs.Counting.{tells_of}
use Rattle.recovery_laws.proofs.laws.a_recovery_counts_what_the_log_has.Goals as goal

pub returns : goal.returns
returns c = tells_of
