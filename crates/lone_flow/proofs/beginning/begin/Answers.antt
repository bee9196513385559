use Rattle.std.proofs.Common.{Ok, Err}
use Rattle.opening_flow.specs.Opening.{opening_program}
use Rattle.mount_core.proofs.Memory.{on_err}
use Rattle.lone_flow.specs.Beginning.{opens_none, to_open}
use Rattle.lone_flow.proofs.SmallPuts.Breaking.{scan_broken}
use Rattle.lone_flow.proofs.SmallPuts.Told.{begun, makes_value}
use Rattle.lone_flow.proofs.beginning.begin.Goals as goal

pub returns-in-Ok-clause-begins : goal.returns-in-Ok-clause-begins
returns-in-Ok-clause-begins g c =
    begun c.args.name c.args.region c.in-Ok.reader c.args.mount.now c.open_reader.new.mount c.scanned-told.new.mount c.scanned-told.result
    (makes_value (opening_program c.args.name 1) c.args.mount.now c.in_ok-reader.field-0 (Ok c.in-Ok.reader) c.open_reader.new.mount c.in-Ok.is c.in_ok-reader.ensures.makes)
    c.scanned-told.ensures.scans

pub returns-in-Err-clause-begins : goal.returns-in-Err-clause-begins
returns-in-Err-clause-begins g c =
    opens_none c.in-Err.why (makes_value (opening_program c.args.name 1) c.args.mount.now c.in_ok-reader.field-0 (Err c.in-Err.why) c.open_reader.new.mount c.in-Err.is c.in_ok-reader.ensures.makes)
    c.without.ensures.begins

pub returns-in_err-reader-clause-broken_off : goal.returns-in_err-reader-clause-broken_off
returns-in_err-reader-clause-broken_off g c = on_err c.from_residual.result _ (to_open c.in_err-reader.ensures.broken_off)

pub returns-in-Ok-clause-broken_off : goal.returns-in-Ok-clause-broken_off
returns-in-Ok-clause-broken_off g c =
    scan_broken c.args.name c.args.region c.in-Ok.reader c.args.mount.now c.open_reader.new.mount c.scanned-told.new.mount c.scanned-told.result
    (makes_value (opening_program c.args.name 1) c.args.mount.now c.in_ok-reader.field-0 (Ok c.in-Ok.reader) c.open_reader.new.mount c.in-Ok.is c.in_ok-reader.ensures.makes)
    c.scanned-told.ensures.broken_off
