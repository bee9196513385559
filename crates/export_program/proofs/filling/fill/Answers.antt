use Rattle.std.proofs.lemmas.Result.{IfOk-weaker}
use Rattle.export_program.specs.Filling.{BeginsToFill, BeginsToFillMade, Fills, FillsMade}
use Rattle.export_program.proofs.Pieces.{made_begins, made_fills, where_refused}
use Rattle.export_program.proofs.filling.fill.Goals as goal

pub returns-in-Ok-clause-fills : goal.returns-in-Ok-clause-fills
returns-in-Ok-clause-fills g c =
    IfOk-weaker c.fill_made.result (λ told. FillsMade c.args.name (g.F.Sink.taking c.in-Ok.file) c.args.mount.now (g.H.Shelf.deeds c.make.new.self) told c.fill_made.new.mount (g.H.Shelf.deeds c.fill_made.new.shelf))
    (λ told. Fills c.args.name c.args.mount.now (g.H.Shelf.deeds c.args.shelf.now) told c.fill_made.new.mount (g.H.Shelf.deeds c.fill_made.new.shelf))
    (λ told made. made_fills c.args.name c.args.mount.now (g.H.Shelf.deeds c.args.shelf.now) (g.H.Shelf.deeds c.make.new.self) (g.F.Sink.taking c.in-Ok.file) told c.fill_made.new.mount (g.H.Shelf.deeds c.fill_made.new.shelf) c.in-Ok.ensures.0 c.in-Ok.ensures.1 made) c.fill_made.ensures.fills

pub returns-in-Ok-clause-broken_off : goal.returns-in-Ok-clause-broken_off
returns-in-Ok-clause-broken_off g c =
    where_refused c.fill_made.result (BeginsToFillMade c.args.name (g.F.Sink.taking c.in-Ok.file) c.args.mount.now (g.H.Shelf.deeds c.make.new.self) c.fill_made.new.mount (g.H.Shelf.deeds c.fill_made.new.shelf))
    (BeginsToFill c.args.name c.args.mount.now (g.H.Shelf.deeds c.args.shelf.now) c.fill_made.new.mount (g.H.Shelf.deeds c.fill_made.new.shelf))
    (λ begins. made_begins c.args.name c.args.mount.now (g.H.Shelf.deeds c.args.shelf.now) (g.H.Shelf.deeds c.make.new.self) (g.F.Sink.taking c.in-Ok.file) c.fill_made.new.mount (g.H.Shelf.deeds c.fill_made.new.shelf) c.in-Ok.ensures.0 c.in-Ok.ensures.1 begins) c.fill_made.ensures.broken_off
