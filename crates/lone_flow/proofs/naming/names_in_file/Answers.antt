use Rattle.std.proofs.Common.{Ok}
use Rattle.mount_core.proofs.Memory.{on_err}
use Rattle.lone_flow.proofs.SmallReads.Breaking.{behind_all}
use Rattle.lone_flow.proofs.SmallReads.Told.{scans_value}
use Rattle.lone_flow.proofs.naming.names_in_file.Goals as goal

pub returns-in_err-names-in-Ok-clause-broken_off : goal.returns-in_err-names-in-Ok-clause-broken_off
returns-in_err-names-in-Ok-clause-broken_off g c =
    on_err c.from_residual-in_err-names-in-Ok.result _ (behind_all c.args.reader.now c.args.mount.now c.scan_all.new.mount c.in-Ok.regions
    (scans_value c.args.reader.now c.args.mount.now c.in_ok-regions.field-0 (Ok c.in-Ok.regions) c.scan_all.new.mount c.in-Ok.is c.in_ok-regions.ensures.scans))
