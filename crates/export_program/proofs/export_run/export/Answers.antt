use Rattle.std.proofs.Common.{ap, refl, sym}
use Rattle.std.specs.Option.{option_map}
use Rattle.mount_sound.proofs.Facts.{mounted_fine}
use Rattle.program_ends.specs.Ends.{Ends, ends_of}
use Rattle.export_program.specs.Course.{exported, unmounted}
use Rattle.export_program.proofs.Cuts.{exported_so}
use Rattle.export_program.proofs.Leading.{exported_leaves}
use Rattle.export_program.proofs.Statuses.{export_caused, export_undamaged, says_no_damage}
use Rattle.export_program.proofs.export_run.export.Goals as goal

pub pass_all-status-requires : goal.pass_all-status-requires
pass_all-status-requires g c = mounted_fine 0 (g.C.Clock.times c.args.clock) (g.S.Store.stored c.args.store) c.in-Ok.mount c.in-Ok.ensures.ok

pub returns-in-Ok-clause-course : goal.returns-in-Ok-clause-course
returns-in-Ok-clause-course g c =
    let e : Ends = ends_of (g.C.Clock.times c.args.clock) (g.O.Sink.taking c.args.out.now) (g.O.Sink.taking c.pass_all-status.new.out) (g.S.Store.stored c.args.store) (option_map g.S.Store.stored c.ends.result.store) in
    exported (g.S.Store.stored c.close.result) (ap (option_map g.S.Store.stored) c.ends.ensures.store)
    (exported_so c.who_writes_a_file_out_sees_it.ensures (g.H.Shelf.deeds c.args.shelf.now) (g.H.Shelf.deeds c.pass_all-status.new.shelf) e (g.S.Store.stored c.close.result) c.ends.result.status c.in-Ok.mount c.pass_all-status.new.mount
    c.in-Ok.ensures.ok (rw (sym c.ends.ensures.status) at c.pass_all-status.ensures.all) (sym c.close.ensures))

pub returns-in-Ok-clause-sound : goal.returns-in-Ok-clause-sound
returns-in-Ok-clause-sound g c =
    let e : Ends = ends_of (g.C.Clock.times c.args.clock) (g.O.Sink.taking c.args.out.now) (g.O.Sink.taking c.pass_all-status.new.out) (g.S.Store.stored c.args.store) (option_map g.S.Store.stored c.ends.result.store) in
    exported_leaves (g.H.Shelf.deeds c.args.shelf.now) (g.H.Shelf.deeds c.pass_all-status.new.shelf) e c.ends.result.status c.a_failed_mounting_leaves_a_sound_tree.ensures
    (exported (g.S.Store.stored c.close.result) (ap (option_map g.S.Store.stored) c.ends.ensures.store)
    (exported_so c.who_writes_a_file_out_sees_it.ensures (g.H.Shelf.deeds c.args.shelf.now) (g.H.Shelf.deeds c.pass_all-status.new.shelf) e (g.S.Store.stored c.close.result) c.ends.result.status c.in-Ok.mount c.pass_all-status.new.mount
    c.in-Ok.ensures.ok (rw (sym c.ends.ensures.status) at c.pass_all-status.ensures.all) (sym c.close.ensures)))

pub returns-in-Err-clause-course : goal.returns-in-Err-clause-course
returns-in-Err-clause-course g c =
    unmounted c.in-Err.trouble (g.S.Store.stored c.in-Err.store) (ap (option_map g.S.Store.stored) c.ends-in-Err.ensures.store) c.in-Err.ensures.err refl (says_no_damage (g.S.Store.stored c.args.store) (g.S.Store.stored c.in-Err.store) c.in-Err.trouble c.in-Err.ensures.err) (rw (sym c.ends-in-Err.ensures.status) at c.say_unmounted-status.ensures)

pub returns-in-Err-clause-sound : goal.returns-in-Err-clause-sound
returns-in-Err-clause-sound g c =
    let e : Ends = ends_of (g.C.Clock.times c.args.clock) (g.O.Sink.taking c.args.out.now) (g.O.Sink.taking c.say_unmounted-status.new.out) (g.S.Store.stored c.args.store) (option_map g.S.Store.stored c.ends-in-Err.result.store) in
    exported_leaves (g.H.Shelf.deeds c.args.shelf.now) (g.H.Shelf.deeds c.args.shelf.now) e c.ends-in-Err.result.status c.a_failed_mounting_leaves_a_sound_tree.ensures
    (unmounted c.in-Err.trouble (g.S.Store.stored c.in-Err.store) (ap (option_map g.S.Store.stored) c.ends-in-Err.ensures.store) c.in-Err.ensures.err refl (says_no_damage (g.S.Store.stored c.args.store) (g.S.Store.stored c.in-Err.store) c.in-Err.trouble c.in-Err.ensures.err) (rw (sym c.ends-in-Err.ensures.status) at c.say_unmounted-status.ensures))

pub returns-in-Ok-clause-cause : goal.returns-in-Ok-clause-cause
returns-in-Ok-clause-cause g c =
    let e : Ends = ends_of (g.C.Clock.times c.args.clock) (g.O.Sink.taking c.args.out.now) (g.O.Sink.taking c.pass_all-status.new.out) (g.S.Store.stored c.args.store) (option_map g.S.Store.stored c.ends.result.store) in
    export_caused (g.H.Shelf.deeds c.args.shelf.now) (g.H.Shelf.deeds c.pass_all-status.new.shelf) e c.ends.result.status
    (exported (g.S.Store.stored c.close.result) (ap (option_map g.S.Store.stored) c.ends.ensures.store)
    (exported_so c.who_writes_a_file_out_sees_it.ensures (g.H.Shelf.deeds c.args.shelf.now) (g.H.Shelf.deeds c.pass_all-status.new.shelf) e (g.S.Store.stored c.close.result) c.ends.result.status c.in-Ok.mount c.pass_all-status.new.mount
    c.in-Ok.ensures.ok (rw (sym c.ends.ensures.status) at c.pass_all-status.ensures.all) (sym c.close.ensures)))

pub returns-in-Err-clause-cause : goal.returns-in-Err-clause-cause
returns-in-Err-clause-cause g c =
    let e : Ends = ends_of (g.C.Clock.times c.args.clock) (g.O.Sink.taking c.args.out.now) (g.O.Sink.taking c.say_unmounted-status.new.out) (g.S.Store.stored c.args.store) (option_map g.S.Store.stored c.ends-in-Err.result.store) in
    export_caused (g.H.Shelf.deeds c.args.shelf.now) (g.H.Shelf.deeds c.args.shelf.now) e c.ends-in-Err.result.status
    (unmounted c.in-Err.trouble (g.S.Store.stored c.in-Err.store) (ap (option_map g.S.Store.stored) c.ends-in-Err.ensures.store) c.in-Err.ensures.err refl (says_no_damage (g.S.Store.stored c.args.store) (g.S.Store.stored c.in-Err.store) c.in-Err.trouble c.in-Err.ensures.err) (rw (sym c.ends-in-Err.ensures.status) at c.say_unmounted-status.ensures))

pub returns-in-Ok-clause-undamaged : goal.returns-in-Ok-clause-undamaged
returns-in-Ok-clause-undamaged g c =
    let e : Ends = ends_of (g.C.Clock.times c.args.clock) (g.O.Sink.taking c.args.out.now) (g.O.Sink.taking c.pass_all-status.new.out) (g.S.Store.stored c.args.store) (option_map g.S.Store.stored c.ends.result.store) in
    export_undamaged (g.H.Shelf.deeds c.args.shelf.now) (g.H.Shelf.deeds c.pass_all-status.new.shelf) e c.ends.result.status
    (exported (g.S.Store.stored c.close.result) (ap (option_map g.S.Store.stored) c.ends.ensures.store)
    (exported_so c.who_writes_a_file_out_sees_it.ensures (g.H.Shelf.deeds c.args.shelf.now) (g.H.Shelf.deeds c.pass_all-status.new.shelf) e (g.S.Store.stored c.close.result) c.ends.result.status c.in-Ok.mount c.pass_all-status.new.mount
    c.in-Ok.ensures.ok (rw (sym c.ends.ensures.status) at c.pass_all-status.ensures.all) (sym c.close.ensures)))

pub returns-in-Err-clause-undamaged : goal.returns-in-Err-clause-undamaged
returns-in-Err-clause-undamaged g c =
    let e : Ends = ends_of (g.C.Clock.times c.args.clock) (g.O.Sink.taking c.args.out.now) (g.O.Sink.taking c.say_unmounted-status.new.out) (g.S.Store.stored c.args.store) (option_map g.S.Store.stored c.ends-in-Err.result.store) in
    export_undamaged (g.H.Shelf.deeds c.args.shelf.now) (g.H.Shelf.deeds c.args.shelf.now) e c.ends-in-Err.result.status
    (unmounted c.in-Err.trouble (g.S.Store.stored c.in-Err.store) (ap (option_map g.S.Store.stored) c.ends-in-Err.ensures.store) c.in-Err.ensures.err refl (says_no_damage (g.S.Store.stored c.args.store) (g.S.Store.stored c.in-Err.store) c.in-Err.trouble c.in-Err.ensures.err) (rw (sym c.ends-in-Err.ensures.status) at c.say_unmounted-status.ensures))
