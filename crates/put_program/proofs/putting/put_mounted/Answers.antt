use Rattle.std.proofs.Common.{refl}
use Rattle.put_program.specs.Putting.{broke_off, ended_so}
use Rattle.put_program.proofs.PutCourses.{CopyLaws, TroubleLaws, seen_so, truly_so}
use Rattle.put_program.proofs.putting.put_mounted.Goals as goal

pub returns-clause-puts : goal.returns-clause-puts
returns-clause-puts g c =
    let laws : CopyLaws = record { kept = c.a_copied_source_is_kept.ensures; seen = c.later_readers_see_a_copied_source.ensures.seen; whole = c.later_readers_see_a_copied_source.ensures.whole } in
    let troubles : TroubleLaws = record { fault = c.a_fault_of_a_copying_is_the_stores.ensures; damage = c.a_copying_shows_no_damage.ensures } in
    ended_so c.in-Ok.told c.in-Ok.ensures.copies
    (truly_so troubles c.args.name c.args.host c.args.over c.args.mount.now (g.I.Source.given c.args.input.now) c.in-Ok.told c.copy.new.mount (g.I.Source.given c.copy.new.input) c.requires c.in-Ok.ensures.copies)
    (seen_so laws c.args.name c.args.host c.args.over c.args.mount.now (g.I.Source.given c.args.input.now) c.in-Ok.told c.copy.new.mount (g.I.Source.given c.copy.new.input) c.requires c.in-Ok.ensures.copies)
    c.say_put.ensures

pub returns-in_default-clause-puts : goal.returns-in_default-clause-puts
returns-in_default-clause-puts g c = broke_off c.in_default.ensures.broken_off refl refl
