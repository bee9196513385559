use Rattle.std.proofs.Common.{◌∷◌, [], ℕ, Option, None, refl, subst}
use Rattle.store_api.specs.declared.tree.Tree.{Tree}
use Rattle.shape_check.specs.Seeing.{IsSeen}
use Rattle.shape_check.specs.Told.{TellsRoom}
use Rattle.check_program.specs.declared.words.CheckCommand.TheVariants.{One}
use Rattle.check_program.specs.Course.{absent}
use Rattle.check_program.proofs.Telling.{checks_later, one_asked, unlisted_so}
use Rattle.check_program.proofs.top.check_one.Goals as goal

pub returns-in-Err-clause-course : goal.returns-in-Err-clause-course
returns-in-Err-clause-course g c =
    unlisted_so (One c.args.name) (g.S.Store.stored c.args.store.now) (g.S.Store.stored c.room_number.new.store) c.in-Err.halt (g.O.Sink.taking c.args.out.now) (g.O.Sink.taking c.say_halt.new.out) c.say_halt.result c.in-Err.ensures.err c.say_halt.ensures

pub returns-in-None-clause-course : goal.returns-in-None-clause-course
returns-in-None-clause-course g c =
    let free : (tree : Tree) → IsSeen (g.S.Store.stored c.args.store.now) tree → TellsRoom tree c.args.name None =
    subst (λ (found : Option ℕ). (tree : Tree) → IsSeen (g.S.Store.stored c.args.store.now) tree → TellsRoom tree c.args.name found) c.in-None.is c.in-Ok.ensures.ok in
    absent c.args.name refl (λ tree seen listable. free tree seen) c.say_text.ensures.reported

pub returns-in-Some-clause-course : goal.returns-in-Some-clause-course
returns-in-Some-clause-course g c =
    let old = g.S.Store.stored c.args.store.now in
    checks_later (One c.args.name) (c.args.name ∷ []) old (g.S.Store.stored c.room_number.new.store) (g.S.Store.stored c.check_names.new.store) (g.O.Sink.taking c.args.out.now) (g.O.Sink.taking c.check_names.new.out) c.check_names.result
    (one_asked old c.args.name c.in-Some._number (subst (λ (found : Option ℕ). (tree : Tree) → IsSeen old tree → TellsRoom tree c.args.name found) c.in-Some.is c.in-Ok.ensures.ok)) c.room_number.ensures.looked c.check_names.ensures.course
