use Rattle.check_program.specs.declared.words.CheckCommand.TheVariants.{All}
use Rattle.check_program.proofs.Telling.{all_asked, checks_later, unlisted_so}
use Rattle.check_program.proofs.top.check_all.Goals as goal

pub returns-in-Err-clause-course : goal.returns-in-Err-clause-course
returns-in-Err-clause-course g c =
    unlisted_so All (g.S.Store.stored c.args.store.now) (g.S.Store.stored c.room_names.new.store) c.in-Err.halt (g.O.Sink.taking c.args.out.now) (g.O.Sink.taking c.say_halt.new.out) c.say_halt.result c.in-Err.ensures.err (rw c.empty.ensures at c.say_halt.ensures)

pub returns-clause-course : goal.returns-clause-course
returns-clause-course g c =
    let old = g.S.Store.stored c.args.store.now in
    checks_later All c.as_slice.result.now old (g.S.Store.stored c.room_names.new.store) (g.S.Store.stored c.check_names.new.store) (g.O.Sink.taking c.args.out.now) (g.O.Sink.taking c.check_names.new.out) c.check_names.result
    (all_asked old c.as_slice.result.now (rw c.as_slice.ensures c.in-Ok.ensures.ok)) c.room_names.ensures.looked c.check_names.ensures.course
