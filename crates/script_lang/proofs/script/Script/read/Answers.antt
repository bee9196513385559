use Rattle.script_lang.proofs.Scripts.Answering.{told_script, told_fault, script_told, fault_told}
use Rattle.script_lang.proofs.script.Script.read.Goals as goal

pub returns-clause-script : goal.returns-clause-script
returns-clause-script c = told_script c.args.bytes.now c.read_script.result c.read_script.ensures.script

pub returns-clause-fault : goal.returns-clause-fault
returns-clause-fault c = told_fault c.args.bytes.now c.read_script.result c.read_script.ensures.script

pub returns-clause-every_script : goal.returns-clause-every_script
returns-clause-every_script c = script_told c.args.bytes.now c.read_script.result c.read_script.ensures.script

pub returns-clause-every_fault : goal.returns-clause-every_fault
returns-clause-every_fault c = fault_told c.args.bytes.now c.read_script.result c.read_script.ensures.script
