use Rattle.std.proofs.Common.{List, ℕ, ◌∙◌, ap, subst}
use Rattle.std.specs.Option.{option_map}
use Rattle.plfs_program.specs.Commands.{IsBuiltCommand}
use Rattle.plfs_program.specs.Course.{Course}
use Rattle.program_ends.specs.Ends.{Ends, ends_of}
use Rattle.copy_program.proofs.Commands.{cat_asks_for_none}
use Rattle.copy_program.proofs.top.get.Goals as goal

pub returns-clause-course : goal.returns-clause-course
returns-clause-course g c =
    let e : Ends = ends_of (g.C.Clock.times c.args.clock) (g.O.Sink.taking c.args.out.now) (g.O.Sink.taking c.single.new.out) (g.S.Store.stored c.args.store) (option_map g.S.Store.stored c.single.result.store) in
    subst (λ (words : List (List ℕ)). Course IsBuiltCommand words (g.I.Source.given c.args.input.now) (g.I.Source.given c.single.new.input) e c.single.result.status) (c.as_slice.ensures.value ∙ c.in-Ok.ensures) c.single.ensures.course

pub returns-in_default-clause-sound : goal.returns-in_default-clause-sound
returns-in_default-clause-sound g c told = (g.S.Store.stored c.args.store, ap (option_map g.S.Store.stored) c.ends.ensures.store, told)

pub returns-clause-undamaged : goal.returns-clause-undamaged
returns-clause-undamaged g c told = c.single.ensures.undamaged told (cat_asks_for_none c.args.name c.as_slice.result.now (g.S.Store.stored c.args.store) (c.as_slice.ensures.value ∙ c.in-Ok.ensures))
