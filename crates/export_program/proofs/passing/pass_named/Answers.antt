use Rattle.std.proofs.Common.{refl}
use Rattle.export_program.specs.Passing as passing
use Rattle.export_program.proofs.Troubles.{fills_true}
use Rattle.export_program.proofs.passing.pass_named.Goals as goal

pub returns-clause-passes : goal.returns-clause-passes
returns-clause-passes g c =
    passing.fills c.in-Ok.filled c.in-Ok.ensures.fills
    (fills_true c.an_opening_opens_a_reader.ensures c.an_open_reader_reads_its_file.ensures.trouble c.args.name c.args.mount.now (g.H.Shelf.deeds c.args.shelf.now) c.in-Ok.filled c.fill.new.mount (g.H.Shelf.deeds c.fill.new.shelf) c.requires c.in-Ok.ensures.fills) c.say_filled.ensures

pub returns-in_default-clause-passes : goal.returns-in_default-clause-passes
returns-in_default-clause-passes g c = passing.broke_off c.in_default.ensures.broken_off refl c.broken.ensures.0 c.broken.ensures.1
