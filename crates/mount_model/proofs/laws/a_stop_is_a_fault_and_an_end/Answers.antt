use Rattle.mount_model.proofs.Stopping.{stop_left}
use Rattle.mount_model.proofs.laws.a_stop_is_a_fault_and_an_end.Goals as goal

pub returns : goal.returns
returns c = λ old new caller k call reply x. stop_left old caller k call reply new x
