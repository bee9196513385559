use Rattle.std.proofs.Common.{subst}
use Rattle.std.specs.Option.{option_map}
use Rattle.program_ends.specs.Ends.{Ends, ends_of}
use Rattle.copy_program.specs.declared.words.CopyCommand.{CopyCommand}
use Rattle.copy_program.specs.Course.{gets, puts}
use Rattle.copy_program.specs.Words.{IsCopyCommand}
use Rattle.put_program.proofs.PutCourses.{put_leaves, put_undamaged}
use Rattle.copy_program.proofs.top.copy.Goals as goal

pub returns-in-Put-clause-course : goal.returns-in-Put-clause-course
returns-in-Put-clause-course g c = puts c.in-Put.name c.in-Put.host c.in-Put.over (subst (λ (command : CopyCommand). IsCopyCommand c.args.words.now command) c.in-Put.is c.in-Some.ensures.found) c.put.ensures

pub returns-in-Put-clause-sound : goal.returns-in-Put-clause-sound
returns-in-Put-clause-sound g c =
    let e : Ends = ends_of (g.C.Clock.times c.args.clock) (g.O.Sink.taking c.args.out.now) (g.O.Sink.taking c.put.new.out) (g.S.Store.stored c.args.store) (option_map g.S.Store.stored c.put.result.store) in
    put_leaves c.in-Put.name c.in-Put.host c.in-Put.over (g.I.Source.given c.args.input.now) (g.I.Source.given c.put.new.input) e c.put.result.status c.a_failed_mounting_leaves_a_sound_tree.ensures c.put.ensures

pub returns-in-Get-clause-course : goal.returns-in-Get-clause-course
returns-in-Get-clause-course g c = gets c.in-Get.name (subst (λ (command : CopyCommand). IsCopyCommand c.args.words.now command) c.in-Get.is c.in-Some.ensures.found) c.get.ensures.course

pub returns-in_default-clause-course : goal.returns-in_default-clause-course
returns-in_default-clause-course g c = c.refuse.ensures.course c.args.words.now (g.I.Source.given c.args.input.now) (g.C.Clock.times c.args.clock) c.in_default.ensures.none

pub returns-in-Put-clause-undamaged : goal.returns-in-Put-clause-undamaged
returns-in-Put-clause-undamaged g c =
    let e : Ends = ends_of (g.C.Clock.times c.args.clock) (g.O.Sink.taking c.args.out.now) (g.O.Sink.taking c.put.new.out) (g.S.Store.stored c.args.store) (option_map g.S.Store.stored c.put.result.store) in
    put_undamaged c.in-Put.name c.in-Put.host c.in-Put.over (g.I.Source.given c.args.input.now) (g.I.Source.given c.put.new.input) e c.put.result.status c.put.ensures
