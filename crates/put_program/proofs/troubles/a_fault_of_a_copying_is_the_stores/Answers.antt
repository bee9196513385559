use Rattle.put_program.proofs.Copyings.Causes.{copy_caused}
use Rattle.put_program.proofs.troubles.a_fault_of_a_copying_is_the_stores.Goals as goal

pub returns : goal.returns
returns c = copy_caused
