use Rattle.std.proofs.Common.{refl}
use Rattle.mount_core.proofs.Memory.{on_err}
use Rattle.copy_core.specs.declared.writing.Written.TheVariants.{All, Stopped}
use Rattle.copy_core.specs.Copying.{to_write}
use Rattle.copy_core.proofs.Copies.{by_broken, by_so, written_value}
use Rattle.copy_core.proofs.copying.copy_by.Goals as goal

pub returns-in-All-clause-copies : goal.returns-in-All-clause-copies
returns-in-All-clause-copies g c =
    let given = g.I.Source.given in
    by_so c.args.handle c.args.mount.now (given c.args.input.now) c.in-All.last c.in-All.is_whole c.write_all.new.mount c.settled_as.new.mount (given c.write_all.new.input) c.settled_as.result
    (written_value c.args.handle c.args.mount.now (given c.args.input.now) c.in_ok-written.written (All c.in-All.last c.in-All.is_whole) c.write_all.new.mount (given c.write_all.new.input) c.in-All.is c.in_ok-written.ensures.writes)
    c.settled_as.ensures.ends

pub returns-in-All-clause-broken_off : goal.returns-in-All-clause-broken_off
returns-in-All-clause-broken_off g c =
    let given = g.I.Source.given in
    by_broken c.args.handle c.args.mount.now (given c.args.input.now) c.in-All.last c.in-All.is_whole c.write_all.new.mount c.settled_as.new.mount (given c.write_all.new.input) c.settled_as.result
    (written_value c.args.handle c.args.mount.now (given c.args.input.now) c.in_ok-written.written (All c.in-All.last c.in-All.is_whole) c.write_all.new.mount (given c.write_all.new.input) c.in-All.is c.in_ok-written.ensures.writes)
    c.settled_as.ensures.broken_off

pub returns-in-Stopped-clause-copies : goal.returns-in-Stopped-clause-copies
returns-in-Stopped-clause-copies g c =
    let given = g.I.Source.given in
    record {
      written = Stopped c.in-Stopped.why;
      after = c.write_all.new.mount;
      writes = written_value c.args.handle c.args.mount.now (given c.args.input.now) c.in_ok-written.written (Stopped c.in-Stopped.why) c.write_all.new.mount (given c.write_all.new.input) c.in-Stopped.is c.in_ok-written.ensures.writes;
      ends = (refl, refl);
    }

pub returns-in_err-written-clause-broken_off : goal.returns-in_err-written-clause-broken_off
returns-in_err-written-clause-broken_off g c = on_err c.from_residual.result _ (to_write c.in_err-written.ensures.broken_off)
