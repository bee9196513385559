use Rattle.pack_input.specs.Answers.{IsTrouble}
use Rattle.pack_input.specs.declared.trouble.InputTrouble.TheVariants.{Fault}
use Rattle.plfs_program.specs.Packing.{packed}
use Rattle.plfs_program.proofs.Streams.PackInputs.{fault_value, input_small}
use Rattle.plfs_program.proofs.pack_run.pack_bytes.Goals as goal

pub pack_files-ended-requires-clause-small : goal.pack_files-ended-requires-clause-small
pack_files-ended-requires-clause-small g c = input_small c.args.bytes.now c.in-Ok.files c.in-Ok.ensures.found

pub returns-in-Ok : goal.returns-in-Ok
returns-in-Ok g c = packed c.in-Ok.files c.in-Ok.ensures.found c.pack_files-ended.ensures

pub returns-in-Err-Fault : goal.returns-in-Err-Fault
returns-in-Err-Fault g c =
    let failed : IsTrouble c.args.bytes.now (Fault c.in-Err-Fault.line c.in-Err-Fault.kind) = rw c.in-Err-Fault.field-0-is at c.in-Err-Fault.ensures.fault in
    c.end_faulty.ensures c.args.name c.args.region c.args.bytes.now (g.C.Clock.times c.args.clock)
    (fault_value c.args.bytes.now _ c.in-Err-Fault.line _ c.in-Err-Fault.kind c.in-Err-Fault.line-is c.in-Err-Fault.kind-is failed)
