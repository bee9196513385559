use Rattle.std.proofs.Common.{refl, ap, sym}
use Rattle.std.specs.Option.{option_map}
use Rattle.mount_sound.proofs.Facts.{mounted_fine}
use Rattle.plfs_program.specs.Course.{migrates}
use Rattle.program_ends.specs.Ends.{Ends, ends_of}
use Rattle.plfs_program.proofs.Courses.MigrateCourses.{migrated_so, not_mounted_so}
use Rattle.plfs_program.proofs.top.migrate.Goals as goal

pub migrate_mounted-status-requires : goal.migrate_mounted-status-requires
migrate_mounted-status-requires g c = mounted_fine 0 (g.C.Clock.times c.args.clock) (g.S.Store.stored c.args.store) c.in-Ok.mount c.in-Ok.ensures.ok

pub returns-in-Ok : goal.returns-in-Ok
returns-in-Ok g c words are =
    let e : Ends = ends_of (g.C.Clock.times c.args.clock) (g.O.Sink.taking c.args.out.now) (g.O.Sink.taking c.migrate_mounted-status.new.out) (g.S.Store.stored c.args.store) (option_map g.S.Store.stored c.ends.result.store) in
    migrates c.args.name are refl
    (migrated_so c.args.name e c.ends.result.status c.in-Ok.mount c.migrate_mounted-status.new.mount (g.S.Store.stored c.close.result) (ap (option_map g.S.Store.stored) c.ends.ensures.store) c.in-Ok.ensures.ok c.close.ensures
    (rw (sym c.ends.ensures.status) at c.migrate_mounted-status.ensures))

pub returns-in-Err : goal.returns-in-Err
returns-in-Err g c words are =
    let e : Ends = ends_of (g.C.Clock.times c.args.clock) (g.O.Sink.taking c.args.out.now) (g.O.Sink.taking c.say_unmounted-status.new.out) (g.S.Store.stored c.args.store) (option_map g.S.Store.stored c.ends-in-Err.result.store) in
    migrates c.args.name are refl
    (not_mounted_so c.args.name e c.ends-in-Err.result.status c.in-Err.trouble (g.S.Store.stored c.in-Err.store) (ap (option_map g.S.Store.stored) c.ends-in-Err.ensures.store) c.in-Err.ensures.err c.in-Err.ensures.fault
    (rw (sym c.ends-in-Err.ensures.status) at c.say_unmounted-status.ensures))
