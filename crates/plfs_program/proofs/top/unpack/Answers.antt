use Rattle.std.proofs.Common.{refl, ap, sym}
use Rattle.std.specs.Option.{option_map}
use Rattle.mount_sound.proofs.Facts.{mounted_fine}
use Rattle.plfs_program.specs.Course.{unpacks}
use Rattle.program_ends.specs.Ends.{Ends, ends_of}
use Rattle.plfs_program.proofs.Courses.SmallCourses.{unpack_so, not_unpack_so}
use Rattle.plfs_program.proofs.top.unpack.Goals as goal

pub unpack_mounted-status-requires : goal.unpack_mounted-status-requires
unpack_mounted-status-requires g c = mounted_fine 0 (g.C.Clock.times c.args.clock) (g.S.Store.stored c.args.store) c.in-Ok.mount c.in-Ok.ensures.ok

pub returns-in-Ok : goal.returns-in-Ok
returns-in-Ok g c words are =
    let e : Ends = ends_of (g.C.Clock.times c.args.clock) (g.O.Sink.taking c.args.out.now) (g.O.Sink.taking c.unpack_mounted-status.new.out) (g.S.Store.stored c.args.store) (option_map g.S.Store.stored c.ends.result.store) in
    unpacks c.args.name c.args.file are refl
    (unpack_so c.who_unpacks_sees_one_file.ensures c.a_mounting_leaves_units_alone.ensures c.args.name c.args.file
    (record { caused = c.a_fault_is_the_stores.ensures.unpack c.args.name c.args.file; undamaged = λ filing start result end. c.a_container_of_units_shows_no_damage.ensures.unpack filing c.args.name c.args.file start result end }) e c.ends.result.status c.in-Ok.mount c.unpack_mounted-status.new.mount (g.S.Store.stored c.close.result) (ap (option_map g.S.Store.stored) c.ends.ensures.store) c.in-Ok.ensures.ok c.close.ensures
    (rw (sym c.ends.ensures.status) at c.unpack_mounted-status.ensures))

pub returns-in-Err : goal.returns-in-Err
returns-in-Err g c words are =
    let e : Ends = ends_of (g.C.Clock.times c.args.clock) (g.O.Sink.taking c.args.out.now) (g.O.Sink.taking c.say_unmounted-status.new.out) (g.S.Store.stored c.args.store) (option_map g.S.Store.stored c.ends-in-Err.result.store) in
    unpacks c.args.name c.args.file are refl
    (not_unpack_so c.args.name c.args.file e c.ends-in-Err.result.status c.in-Err.trouble (g.S.Store.stored c.in-Err.store) (ap (option_map g.S.Store.stored) c.ends-in-Err.ensures.store) c.in-Err.ensures.err c.in-Err.ensures.fault
    (rw (sym c.ends-in-Err.ensures.status) at c.say_unmounted-status.ensures))
