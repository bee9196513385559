use Rattle.script_lang.specs.declared.trouble.ScriptTrouble.TheVariants.{Fault}
use Rattle.script_lang.specs.Told.{IsScriptTrouble}
use Rattle.plfs_program.specs.Ways.{on_threads}
use Rattle.plfs_program.proofs.running.run_input.Goals as goal

pub returns-in-Ok : goal.returns-in-Ok
returns-in-Ok g c = c.run_read.ensures c.args.bytes.now c.in-Ok.ensures.script

pub returns-in-Err-Fault : goal.returns-in-Err-Fault
returns-in-Err-Fault g c =
    let failed : IsScriptTrouble c.args.bytes.now (Fault c.in-Err-Fault.line c.in-Err-Fault.kind) = rw c.in-Err-Fault.field-0-is at c.in-Err-Fault.ensures.fault in
    c.end_faulty.ensures on_threads c.args.bytes.now (g.C.Clock.times c.args.clock) failed
