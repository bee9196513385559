use Rattle.std.specs.Option.{option_map}
use Rattle.program_ends.specs.Ends.{Ends, ends_of}
use Rattle.drain_program.specs.Course.{drains}
use Rattle.drain_program.proofs.CompleteLemmas.{course_complete, course_refused, course_whole}
use Rattle.drain_program.proofs.CourseLemmas.{course_cause, course_copies, course_shows, course_stays, run_sound}
use Rattle.drain_program.proofs.top.drain.Goals as goal

pub returns-in-Some-clause-course : goal.returns-in-Some-clause-course
returns-in-Some-clause-course g c = drains c.in-Some.command.name c.in-Some.ensures.found c.run.ensures

pub returns-in-Some-clause-sound : goal.returns-in-Some-clause-sound
returns-in-Some-clause-sound g c =
    let e : Ends = ends_of (g.C.Clock.times c.args.clock) (g.O.Sink.taking c.args.out.now) (g.O.Sink.taking c.run.new.out) (g.S.Store.stored c.args.store) (option_map g.S.Store.stored c.run.result.store) in
    run_sound c.in-Some.command.name e (g.D.Store.stored c.args.target) (g.D.Store.stored c.run.result.target) c.run.result.status c.run.ensures c.a_failed_mounting_leaves_a_sound_tree.ensures

pub returns-in-Some-clause-stays : goal.returns-in-Some-clause-stays
returns-in-Some-clause-stays g c =
    let e : Ends = ends_of (g.C.Clock.times c.args.clock) (g.O.Sink.taking c.args.out.now) (g.O.Sink.taking c.run.new.out) (g.S.Store.stored c.args.store) (option_map g.S.Store.stored c.run.result.store) in
    course_stays c.args.words.now e (g.D.Store.stored c.args.target) (g.D.Store.stored c.run.result.target) c.run.result.status (drains c.in-Some.command.name c.in-Some.ensures.found c.run.ensures)

pub returns-in-Some-clause-cause : goal.returns-in-Some-clause-cause
returns-in-Some-clause-cause g c =
    let e : Ends = ends_of (g.C.Clock.times c.args.clock) (g.O.Sink.taking c.args.out.now) (g.O.Sink.taking c.run.new.out) (g.S.Store.stored c.args.store) (option_map g.S.Store.stored c.run.result.store) in
    course_cause c.args.words.now e (g.D.Store.stored c.args.target) (g.D.Store.stored c.run.result.target) c.run.result.status (drains c.in-Some.command.name c.in-Some.ensures.found c.run.ensures)

pub returns-in-Some-clause-copies : goal.returns-in-Some-clause-copies
returns-in-Some-clause-copies g c =
    let e : Ends = ends_of (g.C.Clock.times c.args.clock) (g.O.Sink.taking c.args.out.now) (g.O.Sink.taking c.run.new.out) (g.S.Store.stored c.args.store) (option_map g.S.Store.stored c.run.result.store) in
    course_copies c.args.words.now e (g.D.Store.stored c.args.target) (g.D.Store.stored c.run.result.target) c.run.result.status (drains c.in-Some.command.name c.in-Some.ensures.found c.run.ensures)

pub returns-in-None-clause-course : goal.returns-in-None-clause-course
returns-in-None-clause-course g c = c.refuse.ensures.course c.args.words.now (g.C.Clock.times c.args.clock) c.in-None.ensures.none

pub returns-in-None-clause-stays : goal.returns-in-None-clause-stays
returns-in-None-clause-stays g c =
    let e : Ends = ends_of (g.C.Clock.times c.args.clock) (g.O.Sink.taking c.args.out.now) (g.O.Sink.taking c.refuse.new.out) (g.S.Store.stored c.args.store) (option_map g.S.Store.stored c.refuse.result.store) in
    course_stays c.args.words.now e (g.D.Store.stored c.args.target) (g.D.Store.stored c.refuse.result.target) c.refuse.result.status (c.refuse.ensures.course c.args.words.now (g.C.Clock.times c.args.clock) c.in-None.ensures.none)

pub returns-in-None-clause-cause : goal.returns-in-None-clause-cause
returns-in-None-clause-cause g c =
    let e : Ends = ends_of (g.C.Clock.times c.args.clock) (g.O.Sink.taking c.args.out.now) (g.O.Sink.taking c.refuse.new.out) (g.S.Store.stored c.args.store) (option_map g.S.Store.stored c.refuse.result.store) in
    course_cause c.args.words.now e (g.D.Store.stored c.args.target) (g.D.Store.stored c.refuse.result.target) c.refuse.result.status (c.refuse.ensures.course c.args.words.now (g.C.Clock.times c.args.clock) c.in-None.ensures.none)

pub returns-in-None-clause-copies : goal.returns-in-None-clause-copies
returns-in-None-clause-copies g c =
    let e : Ends = ends_of (g.C.Clock.times c.args.clock) (g.O.Sink.taking c.args.out.now) (g.O.Sink.taking c.refuse.new.out) (g.S.Store.stored c.args.store) (option_map g.S.Store.stored c.refuse.result.store) in
    course_copies c.args.words.now e (g.D.Store.stored c.args.target) (g.D.Store.stored c.refuse.result.target) c.refuse.result.status (c.refuse.ensures.course c.args.words.now (g.C.Clock.times c.args.clock) c.in-None.ensures.none)

pub returns-in-Some-clause-shows : goal.returns-in-Some-clause-shows
returns-in-Some-clause-shows g c =
    let e : Ends = ends_of (g.C.Clock.times c.args.clock) (g.O.Sink.taking c.args.out.now) (g.O.Sink.taking c.run.new.out) (g.S.Store.stored c.args.store) (option_map g.S.Store.stored c.run.result.store) in
    course_shows c.args.words.now e (g.D.Store.stored c.args.target) (g.D.Store.stored c.run.result.target) c.run.result.status (drains c.in-Some.command.name c.in-Some.ensures.found c.run.ensures)

pub returns-in-Some-clause-refused : goal.returns-in-Some-clause-refused
returns-in-Some-clause-refused g c =
    let e : Ends = ends_of (g.C.Clock.times c.args.clock) (g.O.Sink.taking c.args.out.now) (g.O.Sink.taking c.run.new.out) (g.S.Store.stored c.args.store) (option_map g.S.Store.stored c.run.result.store) in
    course_refused c.args.words.now e (g.D.Store.stored c.args.target) (g.D.Store.stored c.run.result.target) c.run.result.status c.marks_are_why.ensures.broke_off (drains c.in-Some.command.name c.in-Some.ensures.found c.run.ensures)

pub returns-in-Some-clause-undamaged : goal.returns-in-Some-clause-undamaged
returns-in-Some-clause-undamaged g c =
    let e : Ends = ends_of (g.C.Clock.times c.args.clock) (g.O.Sink.taking c.args.out.now) (g.O.Sink.taking c.run.new.out) (g.S.Store.stored c.args.store) (option_map g.S.Store.stored c.run.result.store) in
    course_whole c.args.words.now e (g.D.Store.stored c.args.target) (g.D.Store.stored c.run.result.target) c.run.result.status c.marks_are_why.ensures.broke_off (drains c.in-Some.command.name c.in-Some.ensures.found c.run.ensures)

pub returns-in-Some-clause-complete : goal.returns-in-Some-clause-complete
returns-in-Some-clause-complete g c =
    let e : Ends = ends_of (g.C.Clock.times c.args.clock) (g.O.Sink.taking c.args.out.now) (g.O.Sink.taking c.run.new.out) (g.S.Store.stored c.args.store) (option_map g.S.Store.stored c.run.result.store) in
    course_complete c.args.words.now e (g.D.Store.stored c.args.target) (g.D.Store.stored c.run.result.target) c.run.result.status c.marks_are_why.ensures.broke_off (drains c.in-Some.command.name c.in-Some.ensures.found c.run.ensures)

pub returns-in-None-clause-shows : goal.returns-in-None-clause-shows
returns-in-None-clause-shows g c =
    let e : Ends = ends_of (g.C.Clock.times c.args.clock) (g.O.Sink.taking c.args.out.now) (g.O.Sink.taking c.refuse.new.out) (g.S.Store.stored c.args.store) (option_map g.S.Store.stored c.refuse.result.store) in
    course_shows c.args.words.now e (g.D.Store.stored c.args.target) (g.D.Store.stored c.refuse.result.target) c.refuse.result.status (c.refuse.ensures.course c.args.words.now (g.C.Clock.times c.args.clock) c.in-None.ensures.none)

pub returns-in-None-clause-refused : goal.returns-in-None-clause-refused
returns-in-None-clause-refused g c =
    let e : Ends = ends_of (g.C.Clock.times c.args.clock) (g.O.Sink.taking c.args.out.now) (g.O.Sink.taking c.refuse.new.out) (g.S.Store.stored c.args.store) (option_map g.S.Store.stored c.refuse.result.store) in
    course_refused c.args.words.now e (g.D.Store.stored c.args.target) (g.D.Store.stored c.refuse.result.target) c.refuse.result.status c.marks_are_why.ensures.broke_off (c.refuse.ensures.course c.args.words.now (g.C.Clock.times c.args.clock) c.in-None.ensures.none)

pub returns-in-None-clause-undamaged : goal.returns-in-None-clause-undamaged
returns-in-None-clause-undamaged g c =
    let e : Ends = ends_of (g.C.Clock.times c.args.clock) (g.O.Sink.taking c.args.out.now) (g.O.Sink.taking c.refuse.new.out) (g.S.Store.stored c.args.store) (option_map g.S.Store.stored c.refuse.result.store) in
    course_whole c.args.words.now e (g.D.Store.stored c.args.target) (g.D.Store.stored c.refuse.result.target) c.refuse.result.status c.marks_are_why.ensures.broke_off (c.refuse.ensures.course c.args.words.now (g.C.Clock.times c.args.clock) c.in-None.ensures.none)

pub returns-in-None-clause-complete : goal.returns-in-None-clause-complete
returns-in-None-clause-complete g c =
    let e : Ends = ends_of (g.C.Clock.times c.args.clock) (g.O.Sink.taking c.args.out.now) (g.O.Sink.taking c.refuse.new.out) (g.S.Store.stored c.args.store) (option_map g.S.Store.stored c.refuse.result.store) in
    course_complete c.args.words.now e (g.D.Store.stored c.args.target) (g.D.Store.stored c.refuse.result.target) c.refuse.result.status c.marks_are_why.ensures.broke_off (c.refuse.ensures.course c.args.words.now (g.C.Clock.times c.args.clock) c.in-None.ensures.none)
