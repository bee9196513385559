use Rattle.std.proofs.Common.{Ok, Err, refl}
use Rattle.mount_core.proofs.Memory.{on_err}
use Rattle.lone_flow.specs.Unpacking.{scans_stuck, to_scan}
use Rattle.lone_flow.proofs.SmallReads.Breaking.{found_broken}
use Rattle.lone_flow.proofs.SmallReads.Looked.{looked_both}
use Rattle.lone_flow.proofs.SmallReads.Told.{found_told, scans_value}
use Rattle.lone_flow.proofs.unpacking.read_file.Goals as goal

pub returns-in-Ok-clause-reads : goal.returns-in-Ok-clause-reads
returns-in-Ok-clause-reads g c =
    found_told c.args.reader.now c.args.file.now c.args.mount.now c.scan_all.new.mount c.read_found.new.mount c.in-Ok.regions c.find-found.result c.read_found.result
    (scans_value c.args.reader.now c.args.mount.now c.in_ok-regions.field-0 (Ok c.in-Ok.regions) c.scan_all.new.mount c.in-Ok.is c.in_ok-regions.ensures.scans) c.find-found.ensures c.read_found.ensures.reads

pub returns-in-Err-clause-reads : goal.returns-in-Err-clause-reads
returns-in-Err-clause-reads g c =
    scans_stuck c.in-Err.why refl (scans_value c.args.reader.now c.args.mount.now c.in_ok-regions.field-0 (Err c.in-Err.why) c.scan_all.new.mount c.in-Err.is c.in_ok-regions.ensures.scans)

pub returns-in-Ok-clause-looks : goal.returns-in-Ok-clause-looks
returns-in-Ok-clause-looks g c = looked_both c.args.mount.now c.scan_all.new.mount c.read_found.new.mount c.in_ok-regions.ensures.looks c.read_found.ensures.looks

pub returns-in_err-regions-clause-broken_off : goal.returns-in_err-regions-clause-broken_off
returns-in_err-regions-clause-broken_off g c = on_err c.from_residual.result _ (to_scan c.in_err-regions.ensures.broken_off)

pub returns-in-Ok-clause-broken_off : goal.returns-in-Ok-clause-broken_off
returns-in-Ok-clause-broken_off g c =
    found_broken c.args.reader.now c.args.file.now c.args.mount.now c.scan_all.new.mount c.read_found.new.mount c.in-Ok.regions c.find-found.result c.read_found.result
    (scans_value c.args.reader.now c.args.mount.now c.in_ok-regions.field-0 (Ok c.in-Ok.regions) c.scan_all.new.mount c.in-Ok.is c.in_ok-regions.ensures.scans) c.find-found.ensures c.read_found.ensures.broken_off
