use Rattle.std.proofs.Common.{Ok, Err, refl}
use Rattle.writer_flow.specs.Opening.{open_program}
use Rattle.mount_core.proofs.Memory.{on_err}
use Rattle.lone_flow.specs.Packing.{puts, to_open_writer, to_put, writer_stuck}
use Rattle.lone_flow.specs.declared.putting.Put.TheVariants.{Made, Full, Stopped}
use Rattle.lone_flow.proofs.SmallPuts.Breaking.{end_broken, put_value}
use Rattle.lone_flow.proofs.SmallPuts.Outcomes.{all_value, put_and_ended}
use Rattle.lone_flow.proofs.SmallPuts.Told.{makes_value}
use Rattle.lone_flow.proofs.packing.pack_from.Goals as goal

pub returns-in-Made-clause-packs : goal.returns-in-Made-clause-packs
returns-in-Made-clause-packs g c =
    put_and_ended c.args.name c.args.region c.args.files.now c.args.at c.args.mount.now c.in-Ok.handle c.open_writer.new.mount (Made c.in-Made.handle c.in-Made.next) c.put_all.new.mount c.settled_as.new.mount c.settled_as.result
    (makes_value (open_program c.args.name 0 64) c.args.mount.now c.in_ok-handle.field-0 (Ok c.in-Ok.handle) c.open_writer.new.mount c.in-Ok.is c.in_ok-handle.ensures.makes)
    (all_value c.args.region c.as_slice.result.now c.args.files.now c.in-Ok.handle c.args.at c.open_writer.new.mount c.in_ok-handle-in-Ok.field-0 (Made c.in-Made.handle c.in-Made.next) c.put_all.new.mount c.as_slice.ensures c.in-Made.is c.in_ok-handle-in-Ok.ensures.puts)
    c.settled_as.ensures.ends

pub returns-in-Full-clause-packs : goal.returns-in-Full-clause-packs
returns-in-Full-clause-packs g c =
    put_and_ended c.args.name c.args.region c.args.files.now c.args.at c.args.mount.now c.in-Ok.handle c.open_writer.new.mount (Full c.in-Full.handle) c.put_all.new.mount c.settled_as-in-Full.new.mount c.settled_as-in-Full.result
    (makes_value (open_program c.args.name 0 64) c.args.mount.now c.in_ok-handle.field-0 (Ok c.in-Ok.handle) c.open_writer.new.mount c.in-Ok.is c.in_ok-handle.ensures.makes)
    (all_value c.args.region c.as_slice.result.now c.args.files.now c.in-Ok.handle c.args.at c.open_writer.new.mount c.in_ok-handle-in-Ok.field-0 (Full c.in-Full.handle) c.put_all.new.mount c.as_slice.ensures c.in-Full.is c.in_ok-handle-in-Ok.ensures.puts)
    c.settled_as-in-Full.ensures.ends

pub returns-in-Stopped-clause-packs : goal.returns-in-Stopped-clause-packs
returns-in-Stopped-clause-packs g c =
    puts c.in-Ok.handle c.open_writer.new.mount (Stopped c.in-Stopped.why) c.put_all.new.mount
    (makes_value (open_program c.args.name 0 64) c.args.mount.now c.in_ok-handle.field-0 (Ok c.in-Ok.handle) c.open_writer.new.mount c.in-Ok.is c.in_ok-handle.ensures.makes)
    (all_value c.args.region c.as_slice.result.now c.args.files.now c.in-Ok.handle c.args.at c.open_writer.new.mount c.in_ok-handle-in-Ok.field-0 (Stopped c.in-Stopped.why) c.put_all.new.mount c.as_slice.ensures c.in-Stopped.is c.in_ok-handle-in-Ok.ensures.puts)
    (refl, refl)

pub returns-in-Err-clause-packs : goal.returns-in-Err-clause-packs
returns-in-Err-clause-packs g c =
    writer_stuck c.in-Err.why
    (makes_value (open_program c.args.name 0 64) c.args.mount.now c.in_ok-handle.field-0 (Err c.in-Err.why) c.open_writer.new.mount c.in-Err.is c.in_ok-handle.ensures.makes) refl

pub returns-in_err-handle-clause-broken_off : goal.returns-in_err-handle-clause-broken_off
returns-in_err-handle-clause-broken_off g c = on_err c.from_residual.result _ (to_open_writer c.in_err-handle.ensures.broken_off)

pub returns-in_err-handle-in-Ok-clause-broken_off : goal.returns-in_err-handle-in-Ok-clause-broken_off
returns-in_err-handle-in-Ok-clause-broken_off g c = on_err _ _ (to_put c.in-Ok.handle c.open_writer.new.mount (makes_value (open_program c.args.name 0 64) c.args.mount.now c.in_ok-handle.field-0 (Ok c.in-Ok.handle) c.open_writer.new.mount c.in-Ok.is c.in_ok-handle.ensures.makes) (put_value c.args.region c.as_slice.result.now c.args.files.now c.in-Ok.handle c.args.at c.open_writer.new.mount c.put_all.new.mount c.as_slice.ensures c.in_err-handle-in-Ok.ensures.broken_off))

pub returns-in-Made-clause-broken_off : goal.returns-in-Made-clause-broken_off
returns-in-Made-clause-broken_off g c =
    end_broken c.args.name c.args.region c.args.files.now c.args.at c.args.mount.now c.in-Ok.handle c.open_writer.new.mount (Made c.in-Made.handle c.in-Made.next) c.put_all.new.mount c.settled_as.new.mount c.settled_as.result
    (makes_value (open_program c.args.name 0 64) c.args.mount.now c.in_ok-handle.field-0 (Ok c.in-Ok.handle) c.open_writer.new.mount c.in-Ok.is c.in_ok-handle.ensures.makes)
    (all_value c.args.region c.as_slice.result.now c.args.files.now c.in-Ok.handle c.args.at c.open_writer.new.mount c.in_ok-handle-in-Ok.field-0 (Made c.in-Made.handle c.in-Made.next) c.put_all.new.mount c.as_slice.ensures c.in-Made.is c.in_ok-handle-in-Ok.ensures.puts)
    c.settled_as.ensures.broken_off

pub returns-in-Full-clause-broken_off : goal.returns-in-Full-clause-broken_off
returns-in-Full-clause-broken_off g c =
    end_broken c.args.name c.args.region c.args.files.now c.args.at c.args.mount.now c.in-Ok.handle c.open_writer.new.mount (Full c.in-Full.handle) c.put_all.new.mount c.settled_as-in-Full.new.mount c.settled_as-in-Full.result
    (makes_value (open_program c.args.name 0 64) c.args.mount.now c.in_ok-handle.field-0 (Ok c.in-Ok.handle) c.open_writer.new.mount c.in-Ok.is c.in_ok-handle.ensures.makes)
    (all_value c.args.region c.as_slice.result.now c.args.files.now c.in-Ok.handle c.args.at c.open_writer.new.mount c.in_ok-handle-in-Ok.field-0 (Full c.in-Full.handle) c.put_all.new.mount c.as_slice.ensures c.in-Full.is c.in_ok-handle-in-Ok.ensures.puts)
    c.settled_as-in-Full.ensures.broken_off
