use Rattle.pack_input.proofs.Inputs.{never_both, one_fault, one_input}
use Rattle.pack_input.proofs.laws.inputs_are_told_apart.Goals as goal

pub returns-clause-one_input : goal.returns-clause-one_input
returns-clause-one_input c = one_input

pub returns-clause-one_fault : goal.returns-clause-one_fault
returns-clause-one_fault c = one_fault

pub returns-clause-never_both : goal.returns-clause-never_both
returns-clause-never_both c = never_both
