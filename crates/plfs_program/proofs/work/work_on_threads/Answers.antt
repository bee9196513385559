use Rattle.std.proofs.Common.{inr}
use Rattle.plfs_types.specs.Counts.{HasRisen}
use Rattle.mount_sound.proofs.Facts.{mounted_fine}
use Rattle.program_ends.specs.Leaving.{broke_off, ran}
use Rattle.plfs_program.specs.Ways.{HasBegun, on_threads}
use Rattle.program_ends.proofs.Facts.{was_run, all_caused, all_unmounted_undamaged}
use Rattle.plfs_program.proofs.Courses.Lines.{play_cause}
use Rattle.plfs_program.proofs.Mounts.MountLemmas.{all_mounted, all_undamaged, all_unmounted}
use Rattle.plfs_program.proofs.work.work_on_threads.Goals as goal

pub run-back-requires-clause-fine : goal.run-back-requires-clause-fine
run-back-requires-clause-fine g c = λ κs lives. mounted_fine 0 (g.C.Clock.times c.args.clock) (g.S.Store.stored c.args.store) c.in-Ok.mount c.in-Ok.ensures.ok

pub returns-in-Ok-clause-left : goal.returns-in-Ok-clause-left
returns-in-Ok-clause-left g c =
    ran (was_run (HasBegun on_threads c.args.script.now) (g.C.Clock.times c.args.clock) (g.S.Store.stored c.args.store) (g.S.Store.stored c.close.result) c.in-Ok.mount c.unwrap.result c.in-Ok.ensures.ok (inr (rw c.unwrap.ensures at c.run-back.ensures.begins)) c.close.ensures)

pub returns-in-Ok-clause-right : goal.returns-in-Ok-clause-right
returns-in-Ok-clause-right g c =
    all_mounted on_threads (g.C.Clock.times c.args.clock) (g.S.Store.stored c.args.store) (g.S.Store.stored c.close.result) c.args.script.now c.in-Ok.mount c.unwrap.result c.run-back.result.lines c.requires.fits c.in-Ok.ensures.ok c.close.ensures
    (rw c.unwrap.ensures at c.run-back.ensures.right)

pub returns-in-Ok-clause-undamaged : goal.returns-in-Ok-clause-undamaged
returns-in-Ok-clause-undamaged g c =
    all_undamaged on_threads (g.C.Clock.times c.args.clock) (g.S.Store.stored c.args.store) c.args.script.now c.in-Ok.mount c.unwrap.result c.run-back.result.lines c.requires.fits c.in-Ok.ensures.ok
    (rw c.unwrap.ensures at c.run-back.ensures.right)

pub returns-in-Ok-clause-cause : goal.returns-in-Ok-clause-cause
returns-in-Ok-clause-cause g c =
    play_cause (g.C.Clock.times c.args.clock) (g.S.Store.stored c.args.store) (g.S.Store.stored c.close.result) c.in-Ok.mount c.unwrap.result c.run-back.result.lines c.in-Ok.ensures.ok c.close.ensures
    (rw c.unwrap.ensures at c.run-back.ensures.cause)

pub returns-in-Err-clause-left : goal.returns-in-Err-clause-left
returns-in-Err-clause-left g c = broke_off c.in-Err.trouble c.in-Err.ensures.err

pub returns-in-Err-clause-right : goal.returns-in-Err-clause-right
returns-in-Err-clause-right g c =
    all_unmounted on_threads (g.C.Clock.times c.args.clock) (g.S.Store.stored c.args.store) (g.S.Store.stored c.in-Err.store) c.in-Err.trouble c.args.script.now c.mounting_line.result c.in-Err.ensures.err c.mounting_line.ensures.line

pub returns-in-Err-clause-cause : goal.returns-in-Err-clause-cause
returns-in-Err-clause-cause g c =
    all_caused c.in-Err.trouble c.mounting_line.result (HasRisen (g.S.Store.stored c.args.store).faults (g.S.Store.stored c.in-Err.store).faults) c.mounting_line.ensures.line c.in-Err.ensures.fault

pub returns-in-Err-clause-undamaged : goal.returns-in-Err-clause-undamaged
returns-in-Err-clause-undamaged g c = all_unmounted_undamaged (g.S.Store.stored c.args.store) (g.S.Store.stored c.in-Err.store) c.in-Err.trouble c.mounting_line.result c.in-Err.ensures.err c.mounting_line.ensures.line
