use Rattle.plfs_types.specs.Counts.{HasRisen}
use Rattle.mount_sound.proofs.Facts.{mounted_fine}
use Rattle.program_ends.specs.Leaving.{broke_off, ran}
use Rattle.plfs_program.specs.Ways.{HasBegun, by_turns}
use Rattle.plfs_program.proofs.Courses.Calls.{begun_so}
use Rattle.program_ends.proofs.Facts.{was_run, all_caused, all_unmounted_undamaged}
use Rattle.plfs_program.proofs.Courses.Lines.{play_cause}
use Rattle.plfs_program.proofs.Mounts.MountLemmas.{all_mounted, all_undamaged, all_unmounted}
use Rattle.plfs_program.proofs.work.work.Goals as goal

pub play-lines-requires-clause-fine : goal.play-lines-requires-clause-fine
play-lines-requires-clause-fine g c = mounted_fine 0 (g.C.Clock.times c.args.clock) (g.S.Store.stored c.args.store) c.in-Ok.mount c.in-Ok.ensures.ok

pub returns-in-Ok-clause-left : goal.returns-in-Ok-clause-left
returns-in-Ok-clause-left g c =
    ran (was_run (HasBegun by_turns c.args.script.now) (g.C.Clock.times c.args.clock) (g.S.Store.stored c.args.store) (g.S.Store.stored c.close.result) c.in-Ok.mount c.play-lines.new.mount c.in-Ok.ensures.ok
    (begun_so c.args.script.now c.in-Ok.mount c.play-lines.new.mount c.play-lines.result c.play-lines.ensures.plays c.play-lines.ensures.broken) c.close.ensures)

pub returns-in-Ok-clause-in_turn : goal.returns-in-Ok-clause-in_turn
returns-in-Ok-clause-in_turn g c =
    all_mounted by_turns (g.C.Clock.times c.args.clock) (g.S.Store.stored c.args.store) (g.S.Store.stored c.close.result) c.args.script.now c.in-Ok.mount c.play-lines.new.mount c.play-lines.result c.requires.fits c.in-Ok.ensures.ok c.close.ensures c.play-lines.ensures.plays

pub returns-in-Ok-clause-undamaged : goal.returns-in-Ok-clause-undamaged
returns-in-Ok-clause-undamaged g c =
    all_undamaged by_turns (g.C.Clock.times c.args.clock) (g.S.Store.stored c.args.store) c.args.script.now c.in-Ok.mount c.play-lines.new.mount c.play-lines.result c.requires.fits c.in-Ok.ensures.ok c.play-lines.ensures.plays

pub returns-in-Ok-clause-cause : goal.returns-in-Ok-clause-cause
returns-in-Ok-clause-cause g c =
    play_cause (g.C.Clock.times c.args.clock) (g.S.Store.stored c.args.store) (g.S.Store.stored c.close.result) c.in-Ok.mount c.play-lines.new.mount c.play-lines.result c.in-Ok.ensures.ok c.close.ensures c.play-lines.ensures.cause

pub returns-in-Err-clause-left : goal.returns-in-Err-clause-left
returns-in-Err-clause-left g c = broke_off c.in-Err.trouble c.in-Err.ensures.err

pub returns-in-Err-clause-in_turn : goal.returns-in-Err-clause-in_turn
returns-in-Err-clause-in_turn g c =
    all_unmounted by_turns (g.C.Clock.times c.args.clock) (g.S.Store.stored c.args.store) (g.S.Store.stored c.in-Err.store) c.in-Err.trouble c.args.script.now c.mounting_line.result c.in-Err.ensures.err c.mounting_line.ensures.line

pub returns-in-Err-clause-cause : goal.returns-in-Err-clause-cause
returns-in-Err-clause-cause g c =
    all_caused c.in-Err.trouble c.mounting_line.result (HasRisen (g.S.Store.stored c.args.store).faults (g.S.Store.stored c.in-Err.store).faults) c.mounting_line.ensures.line c.in-Err.ensures.fault

pub returns-in-Err-clause-undamaged : goal.returns-in-Err-clause-undamaged
returns-in-Err-clause-undamaged g c = all_unmounted_undamaged (g.S.Store.stored c.args.store) (g.S.Store.stored c.in-Err.store) c.in-Err.trouble c.mounting_line.result c.in-Err.ensures.err c.mounting_line.ensures.line
