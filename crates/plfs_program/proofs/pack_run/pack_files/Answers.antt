use Rattle.std.proofs.Common.{ap, sym}
use Rattle.std.specs.Option.{option_map}
use Rattle.mount_sound.proofs.Facts.{mounted_fine}
use Rattle.program_ends.specs.Ends.{Ends, ends_of}
use Rattle.plfs_program.proofs.Courses.PackCourses.{not_packed_so, packed_so}
use Rattle.plfs_program.proofs.pack_run.pack_files.Goals as goal

pub pack_mounted-status-requires-clause-fine : goal.pack_mounted-status-requires-clause-fine
pack_mounted-status-requires-clause-fine g c = mounted_fine 0 (g.C.Clock.times c.args.clock) (g.S.Store.stored c.args.store) c.in-Ok.mount c.in-Ok.ensures.ok

pub returns-in-Ok : goal.returns-in-Ok
returns-in-Ok g c =
    let e : Ends = ends_of (g.C.Clock.times c.args.clock) (g.O.Sink.taking c.args.out.now) (g.O.Sink.taking c.pack_mounted-status.new.out) (g.S.Store.stored c.args.store) (option_map g.S.Store.stored c.ends.result.store) in
    packed_so c.args.name c.args.region c.args.files.now c.a_mounting_leaves_units_alone.ensures
    (record { caused = c.a_fault_is_the_stores.ensures.pack c.args.name c.args.region c.args.files.now; undamaged = λ filing start result end. c.a_container_of_units_shows_no_damage.ensures.pack filing c.args.name c.args.region c.args.files.now start result end c.requires.known }) e c.ends.result.status c.in-Ok.mount c.pack_mounted-status.new.mount (g.S.Store.stored c.close.result) (ap (option_map g.S.Store.stored) c.ends.ensures.store) c.in-Ok.ensures.ok c.close.ensures
    (rw (sym c.ends.ensures.status) at c.pack_mounted-status.ensures)

pub returns-in-Err : goal.returns-in-Err
returns-in-Err g c =
    let e : Ends = ends_of (g.C.Clock.times c.args.clock) (g.O.Sink.taking c.args.out.now) (g.O.Sink.taking c.say_unmounted-status.new.out) (g.S.Store.stored c.args.store) (option_map g.S.Store.stored c.ends-in-Err.result.store) in
    not_packed_so c.args.name c.args.region c.args.files.now e c.ends-in-Err.result.status c.in-Err.trouble (g.S.Store.stored c.in-Err.store) (ap (option_map g.S.Store.stored) c.ends-in-Err.ensures.store) c.in-Err.ensures.err c.in-Err.ensures.fault
    (rw (sym c.ends-in-Err.ensures.status) at c.say_unmounted-status.ensures)
