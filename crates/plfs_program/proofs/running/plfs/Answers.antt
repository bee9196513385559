use Rattle.std.proofs.Common.{inl}
use Rattle.std.specs.Option.{option_map}
use Rattle.plfs_program.specs.Commands.{IsServed}
use Rattle.program_ends.specs.Ends.{ends_of, Ends}
use Rattle.plfs_program.proofs.Courses.CourseLaws.{course_leaves, course_undamaged}
use Rattle.plfs_program.proofs.Courses.CompleteLaws.{course_done}
use Rattle.plfs_program.proofs.Courses.PlainCats.{course_cats}
use Rattle.plfs_program.proofs.Courses.PlainMigrations.{course_migrates}
use Rattle.plfs_program.proofs.Courses.PlainPacks.{course_packs}
use Rattle.plfs_program.proofs.Courses.PlainRuns.{course_plain}
use Rattle.plfs_program.proofs.Courses.PlainSmallRuns.{course_names, course_unpacks}
use Rattle.plfs_program.proofs.running.plfs.Goals as goal

pub returns-clause-undamaged : goal.returns-clause-undamaged
returns-clause-undamaged g c =
    let e : Ends = ends_of (g.C.Clock.times c.args.clock) (g.O.Sink.taking c.args.out.now) (g.O.Sink.taking c.follow.new.out) (g.S.Store.stored c.args.store) (option_map g.S.Store.stored c.follow.result.store) in
    course_undamaged IsServed c.args.words.now (g.I.Input.given c.args.input.now) (g.I.Input.given c.follow.new.input) e c.follow.result.status c.follow.ensures

pub returns-clause-sound : goal.returns-clause-sound
returns-clause-sound g c =
    let e : Ends = ends_of (g.C.Clock.times c.args.clock) (g.O.Sink.taking c.args.out.now) (g.O.Sink.taking c.follow.new.out) (g.S.Store.stored c.args.store) (option_map g.S.Store.stored c.follow.result.store) in
    course_leaves c.a_failed_mounting_leaves_a_sound_tree.ensures IsServed c.args.words.now (g.I.Input.given c.args.input.now) (g.I.Input.given c.follow.new.input) e c.follow.result.status c.follow.ensures

pub returns-clause-complete : goal.returns-clause-complete
returns-clause-complete g c sound units asked quiet =
    let e : Ends = ends_of (g.C.Clock.times c.args.clock) (g.O.Sink.taking c.args.out.now) (g.O.Sink.taking c.follow.new.out) (g.S.Store.stored c.args.store) (option_map g.S.Store.stored c.follow.result.store) in
    course_done (g.I.Input.given c.args.input.now) (g.I.Input.given c.follow.new.input) e quiet sound IsServed c.args.words.now c.follow.result.status units asked c.follow.ensures

pub returns-clause-plain : goal.returns-clause-plain
returns-clause-plain g c quiet fed =
    let e : Ends = ends_of (g.C.Clock.times c.args.clock) (g.O.Sink.taking c.args.out.now) (g.O.Sink.taking c.follow.new.out) (g.S.Store.stored c.args.store) (option_map g.S.Store.stored c.follow.result.store) in
    record {
      plays = λ script shows asks. course_plain c.scripts_are_told_apart.ensures.one_script c.scripts_are_told_apart.ensures.never_both (g.I.Input.given c.args.input.now) (g.I.Input.given c.follow.new.input) e c.follow.result.status quiet fed IsServed (λ asked served. inl served) c.args.words.now script shows asks c.follow.ensures;
      cats = λ name is. course_cats (g.I.Input.given c.args.input.now) (g.I.Input.given c.follow.new.input) e c.follow.result.status quiet fed IsServed (λ asked served. inl served) c.args.words.now name is c.follow.ensures;
      unpacks = λ name file is. course_unpacks (g.I.Input.given c.args.input.now) (g.I.Input.given c.follow.new.input) e c.follow.result.status quiet fed IsServed (λ asked served. inl served) c.args.words.now name file is (c.small_files_are_the_machines.ensures.unpacks name file (g.I.Input.given c.args.input.now) (g.I.Input.given c.follow.new.input) e c.follow.result.status quiet fed) c.follow.ensures;
      names = λ name is. course_names (g.I.Input.given c.args.input.now) (g.I.Input.given c.follow.new.input) e c.follow.result.status quiet fed IsServed (λ asked served. inl served) c.args.words.now name is (c.small_files_are_the_machines.ensures.names name (g.I.Input.given c.args.input.now) (g.I.Input.given c.follow.new.input) e c.follow.result.status quiet fed) c.follow.ensures;
      migrates = λ name is. course_migrates (g.I.Input.given c.args.input.now) (g.I.Input.given c.follow.new.input) e c.follow.result.status quiet fed IsServed (λ asked served. inl served) c.args.words.now name is (c.small_files_are_the_machines.ensures.migrates name (g.I.Input.given c.args.input.now) (g.I.Input.given c.follow.new.input) e c.follow.result.status quiet fed) c.follow.ensures;
      packs = λ name region bytes files is told spelled. course_packs c.packings_are_plain.ensures.over_a_store c.inputs_are_told_apart.ensures.one_input c.inputs_are_told_apart.ensures.never_both (g.I.Input.given c.args.input.now) (g.I.Input.given c.follow.new.input) e c.follow.result.status quiet fed IsServed (λ asked served. inl served) c.args.words.now name region bytes files is told spelled c.follow.ensures;
    }
