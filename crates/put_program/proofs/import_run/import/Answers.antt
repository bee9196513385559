use Rattle.std.proofs.Common.{ap, sym}
use Rattle.std.specs.Option.{option_map}
use Rattle.mount_sound.proofs.Facts.{mounted_fine}
use Rattle.program_ends.specs.Ends.{Ends, ends_of}
use Rattle.put_program.specs.Importing.{sources_of, unmounted}
use Rattle.put_program.proofs.ImportTroubles.{import_caused, import_undamaged}
use Rattle.put_program.proofs.Imports.{imported_leaves, imported_so}
use Rattle.put_program.proofs.Statuses.{says_no_damage}
use Rattle.put_program.proofs.import_run.import.Goals as goal

pub put_each-status-requires : goal.put_each-status-requires
put_each-status-requires g c = mounted_fine 0 (g.C.Clock.times c.args.clock) (g.S.Store.stored c.args.store) c.in-Ok.mount c.in-Ok.ensures.ok

pub returns-in-Ok-clause-course : goal.returns-in-Ok-clause-course
returns-in-Ok-clause-course g c =
    let e : Ends = ends_of (g.C.Clock.times c.args.clock) (g.O.Sink.taking c.args.out.now) (g.O.Sink.taking c.put_each-status.new.out) (g.S.Store.stored c.args.store) (option_map g.S.Store.stored c.ends.result.store) in
    imported_so c.args.host c.args.over (sources_of g.I.Source.given c.args.files.items) e c.ends.result.status c.in-Ok.mount c.put_each-status.new.mount (g.S.Store.stored c.close.result)
    (ap (option_map g.S.Store.stored) c.ends.ensures.store) c.in-Ok.ensures.ok (rw (sym c.ends.ensures.status) at c.put_each-status.ensures.put) (sym c.close.ensures)

pub returns-in-Ok-clause-sound : goal.returns-in-Ok-clause-sound
returns-in-Ok-clause-sound g c =
    let e : Ends = ends_of (g.C.Clock.times c.args.clock) (g.O.Sink.taking c.args.out.now) (g.O.Sink.taking c.put_each-status.new.out) (g.S.Store.stored c.args.store) (option_map g.S.Store.stored c.ends.result.store) in
    imported_leaves c.args.host c.args.over (sources_of g.I.Source.given c.args.files.items) e c.ends.result.status c.a_failed_mounting_leaves_a_sound_tree.ensures
    (imported_so c.args.host c.args.over (sources_of g.I.Source.given c.args.files.items) e c.ends.result.status c.in-Ok.mount c.put_each-status.new.mount (g.S.Store.stored c.close.result)
    (ap (option_map g.S.Store.stored) c.ends.ensures.store) c.in-Ok.ensures.ok (rw (sym c.ends.ensures.status) at c.put_each-status.ensures.put) (sym c.close.ensures))

pub returns-in-Err-clause-course : goal.returns-in-Err-clause-course
returns-in-Err-clause-course g c =
    unmounted c.in-Err.trouble (g.S.Store.stored c.in-Err.store) (ap (option_map g.S.Store.stored) c.ends-in-Err.ensures.store) c.in-Err.ensures.err (says_no_damage (g.S.Store.stored c.args.store) (g.S.Store.stored c.in-Err.store) c.in-Err.trouble c.in-Err.ensures.err) (rw (sym c.ends-in-Err.ensures.status) at c.say_unmounted-status.ensures)

pub returns-in-Err-clause-sound : goal.returns-in-Err-clause-sound
returns-in-Err-clause-sound g c =
    let e : Ends = ends_of (g.C.Clock.times c.args.clock) (g.O.Sink.taking c.args.out.now) (g.O.Sink.taking c.say_unmounted-status.new.out) (g.S.Store.stored c.args.store) (option_map g.S.Store.stored c.ends-in-Err.result.store) in
    imported_leaves c.args.host c.args.over (sources_of g.I.Source.given c.args.files.items) e c.ends-in-Err.result.status c.a_failed_mounting_leaves_a_sound_tree.ensures
    (unmounted c.in-Err.trouble (g.S.Store.stored c.in-Err.store) (ap (option_map g.S.Store.stored) c.ends-in-Err.ensures.store) c.in-Err.ensures.err (says_no_damage (g.S.Store.stored c.args.store) (g.S.Store.stored c.in-Err.store) c.in-Err.trouble c.in-Err.ensures.err) (rw (sym c.ends-in-Err.ensures.status) at c.say_unmounted-status.ensures))

pub returns-in-Ok-clause-cause : goal.returns-in-Ok-clause-cause
returns-in-Ok-clause-cause g c =
    let e : Ends = ends_of (g.C.Clock.times c.args.clock) (g.O.Sink.taking c.args.out.now) (g.O.Sink.taking c.put_each-status.new.out) (g.S.Store.stored c.args.store) (option_map g.S.Store.stored c.ends.result.store) in
    import_caused c.args.host c.args.over (sources_of g.I.Source.given c.args.files.items) e c.ends.result.status
    (imported_so c.args.host c.args.over (sources_of g.I.Source.given c.args.files.items) e c.ends.result.status c.in-Ok.mount c.put_each-status.new.mount (g.S.Store.stored c.close.result)
    (ap (option_map g.S.Store.stored) c.ends.ensures.store) c.in-Ok.ensures.ok (rw (sym c.ends.ensures.status) at c.put_each-status.ensures.put) (sym c.close.ensures))

pub returns-in-Err-clause-cause : goal.returns-in-Err-clause-cause
returns-in-Err-clause-cause g c =
    let e : Ends = ends_of (g.C.Clock.times c.args.clock) (g.O.Sink.taking c.args.out.now) (g.O.Sink.taking c.say_unmounted-status.new.out) (g.S.Store.stored c.args.store) (option_map g.S.Store.stored c.ends-in-Err.result.store) in
    import_caused c.args.host c.args.over (sources_of g.I.Source.given c.args.files.items) e c.ends-in-Err.result.status
    (unmounted c.in-Err.trouble (g.S.Store.stored c.in-Err.store) (ap (option_map g.S.Store.stored) c.ends-in-Err.ensures.store) c.in-Err.ensures.err (says_no_damage (g.S.Store.stored c.args.store) (g.S.Store.stored c.in-Err.store) c.in-Err.trouble c.in-Err.ensures.err) (rw (sym c.ends-in-Err.ensures.status) at c.say_unmounted-status.ensures))

pub returns-in-Ok-clause-undamaged : goal.returns-in-Ok-clause-undamaged
returns-in-Ok-clause-undamaged g c =
    let e : Ends = ends_of (g.C.Clock.times c.args.clock) (g.O.Sink.taking c.args.out.now) (g.O.Sink.taking c.put_each-status.new.out) (g.S.Store.stored c.args.store) (option_map g.S.Store.stored c.ends.result.store) in
    import_undamaged c.args.host c.args.over (sources_of g.I.Source.given c.args.files.items) e c.ends.result.status
    (imported_so c.args.host c.args.over (sources_of g.I.Source.given c.args.files.items) e c.ends.result.status c.in-Ok.mount c.put_each-status.new.mount (g.S.Store.stored c.close.result)
    (ap (option_map g.S.Store.stored) c.ends.ensures.store) c.in-Ok.ensures.ok (rw (sym c.ends.ensures.status) at c.put_each-status.ensures.put) (sym c.close.ensures))

pub returns-in-Err-clause-undamaged : goal.returns-in-Err-clause-undamaged
returns-in-Err-clause-undamaged g c =
    let e : Ends = ends_of (g.C.Clock.times c.args.clock) (g.O.Sink.taking c.args.out.now) (g.O.Sink.taking c.say_unmounted-status.new.out) (g.S.Store.stored c.args.store) (option_map g.S.Store.stored c.ends-in-Err.result.store) in
    import_undamaged c.args.host c.args.over (sources_of g.I.Source.given c.args.files.items) e c.ends-in-Err.result.status
    (unmounted c.in-Err.trouble (g.S.Store.stored c.in-Err.store) (ap (option_map g.S.Store.stored) c.ends-in-Err.ensures.store) c.in-Err.ensures.err (says_no_damage (g.S.Store.stored c.args.store) (g.S.Store.stored c.in-Err.store) c.in-Err.trouble c.in-Err.ensures.err) (rw (sym c.ends-in-Err.ensures.status) at c.say_unmounted-status.ensures))
