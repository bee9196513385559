use Rattle.script_lang.proofs.Scripts.ExactLemmas.{one_script, one_fault, never_both, always_one}
use Rattle.script_lang.proofs.spelling.scripts_are_told_apart.Goals as goal

pub returns-clause-one_script : goal.returns-clause-one_script
returns-clause-one_script c = one_script

pub returns-clause-one_fault : goal.returns-clause-one_fault
returns-clause-one_fault c = one_fault

pub returns-clause-never_both : goal.returns-clause-never_both
returns-clause-never_both c = never_both

pub returns-clause-always_one : goal.returns-clause-always_one
returns-clause-always_one c = always_one
