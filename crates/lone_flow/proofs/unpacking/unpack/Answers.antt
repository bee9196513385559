use Rattle.std.proofs.Common.{Ok, Err, refl}
use Rattle.mount_core.proofs.Memory.{on_err}
use Rattle.lone_flow.specs.Unpacking.{opens_stuck, to_open}
use Rattle.lone_flow.proofs.SmallReads.Breaking.{unpack_broken}
use Rattle.lone_flow.proofs.SmallReads.Looked.{looked_both}
use Rattle.lone_flow.proofs.SmallReads.Told.{makes_value, opened_told}
use Rattle.lone_flow.proofs.unpacking.unpack.Goals as goal

pub returns-in-Ok-clause-unpacks : goal.returns-in-Ok-clause-unpacks
returns-in-Ok-clause-unpacks g c =
    opened_told c.args.name c.args.file.now c.in-Ok.reader c.args.mount.now c.open_reader.new.mount c.read_file-told.new.mount c.read_file-told.result
    (makes_value c.args.name c.args.mount.now c.in_ok-reader.field-0 (Ok c.in-Ok.reader) c.open_reader.new.mount c.in-Ok.is c.in_ok-reader.ensures.makes) c.read_file-told.ensures.reads

pub returns-in-Err-clause-unpacks : goal.returns-in-Err-clause-unpacks
returns-in-Err-clause-unpacks g c =
    opens_stuck c.in-Err.why refl (makes_value c.args.name c.args.mount.now c.in_ok-reader.field-0 (Err c.in-Err.why) c.open_reader.new.mount c.in-Err.is c.in_ok-reader.ensures.makes)

pub returns-in-Ok-clause-looks : goal.returns-in-Ok-clause-looks
returns-in-Ok-clause-looks g c = looked_both c.args.mount.now c.open_reader.new.mount c.read_file-told.new.mount c.in_ok-reader.ensures.looks c.read_file-told.ensures.looks

pub returns-in_err-reader-clause-broken_off : goal.returns-in_err-reader-clause-broken_off
returns-in_err-reader-clause-broken_off g c = on_err c.from_residual.result _ (to_open c.in_err-reader.ensures.broken_off)

pub returns-in-Ok-clause-broken_off : goal.returns-in-Ok-clause-broken_off
returns-in-Ok-clause-broken_off g c =
    unpack_broken c.args.name c.args.file.now c.in-Ok.reader c.args.mount.now c.open_reader.new.mount c.read_file-told.new.mount c.read_file-told.result
    (makes_value c.args.name c.args.mount.now c.in_ok-reader.field-0 (Ok c.in-Ok.reader) c.open_reader.new.mount c.in-Ok.is c.in_ok-reader.ensures.makes) c.read_file-told.ensures.broken_off
