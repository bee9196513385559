use Rattle.std.proofs.Common.{◌∙◌, ap, sym, subst}
use Rattle.check_program.specs.declared.words.CheckCommand.{CheckCommand}
use Rattle.check_program.specs.declared.words.CheckCommand.TheVariants.{One}
use Rattle.check_program.specs.Course.{ChecksOn}
use Rattle.check_program.proofs.top.obey.Goals as goal

pub returns-in-All-clause-course : goal.returns-in-All-clause-course
returns-in-All-clause-course g c =
    subst (λ (command : CheckCommand). ChecksOn command (g.S.Store.stored c.args.store.now) (g.S.Store.stored c.check_all.new.store) (g.O.Sink.taking c.args.out.now) (g.O.Sink.taking c.check_all.new.out) c.check_all.result) (sym c.in-All.is) c.check_all.ensures.course

pub returns-in-One-clause-course : goal.returns-in-One-clause-course
returns-in-One-clause-course g c =
    subst (λ (command : CheckCommand). ChecksOn command (g.S.Store.stored c.args.store.now) (g.S.Store.stored c.check_one.new.store) (g.O.Sink.taking c.args.out.now) (g.O.Sink.taking c.check_one.new.out) c.check_one.result)
    (ap One c.name.ensures.same ∙ sym c.in-One.is) c.check_one.ensures.course
