use Rattle.std.proofs.Common.{Ok, Err, refl}
use Rattle.mount_core.proofs.Memory.{on_err}
use Rattle.copy_core.specs.Copying.{opens_none, to_open}
use Rattle.copy_core.proofs.Copies.{into_broken, into_so, opened_value}
use Rattle.copy_core.proofs.copying.copy_into.Goals as goal

pub returns-in-Ok-clause-copies : goal.returns-in-Ok-clause-copies
returns-in-Ok-clause-copies g c =
    let given = g.I.Source.given in
    into_so c.args.name c.args.host c.args.mount.now (given c.args.input.now) c.in-Ok.handle c.open_writer.new.mount c.copy_by.new.mount (given c.copy_by.new.input) c.copy_by.result
    (opened_value c.args.name c.args.host c.args.mount.now c.in_ok-opened.opened (Ok c.in-Ok.handle) c.open_writer.new.mount c.in-Ok.is c.in_ok-opened.ensures.makes) c.copy_by.ensures.copies

pub returns-in-Ok-clause-broken_off : goal.returns-in-Ok-clause-broken_off
returns-in-Ok-clause-broken_off g c =
    let given = g.I.Source.given in
    into_broken c.args.name c.args.host c.args.mount.now (given c.args.input.now) c.in-Ok.handle c.open_writer.new.mount c.copy_by.new.mount (given c.copy_by.new.input) c.copy_by.result
    (opened_value c.args.name c.args.host c.args.mount.now c.in_ok-opened.opened (Ok c.in-Ok.handle) c.open_writer.new.mount c.in-Ok.is c.in_ok-opened.ensures.makes) c.copy_by.ensures.broken_off

pub returns-in-Err-clause-copies : goal.returns-in-Err-clause-copies
returns-in-Err-clause-copies g c =
    opens_none c.in-Err.why (opened_value c.args.name c.args.host c.args.mount.now c.in_ok-opened.opened (Err c.in-Err.why) c.open_writer.new.mount c.in-Err.is c.in_ok-opened.ensures.makes) refl refl

pub returns-in_err-opened-clause-broken_off : goal.returns-in_err-opened-clause-broken_off
returns-in_err-opened-clause-broken_off g c = on_err c.from_residual.result _ (to_open c.in_err-opened.ensures.broken_off refl)
