use Rattle.std.proofs.Common.{ap, refl}
use Rattle.std.proofs.lemmas.Result.{IfOk-weaker}
use Rattle.export_program.specs.declared.filling.Filled.TheVariants as filled
use Rattle.export_program.specs.Filling.{BeginsToFillMade, FillsMade, KeepsWhole}
use Rattle.export_program.specs.Filling as filling
use Rattle.export_program.specs.Shelf.{Adds, starved}
use Rattle.export_program.proofs.Pieces.{where_refused}
use Rattle.export_program.proofs.filling.fill_made.Goals as goal

pub returns-in-Ok-Ok-clause-fills : goal.returns-in-Ok-Ok-clause-fills
returns-in-Ok-Ok-clause-fills g c =
    IfOk-weaker c.keep_whole.result (λ told. KeepsWhole c.args.name c.in-Ok-Ok.size (g.F.Sink.taking c.write_file.new.out) (g.H.Shelf.deeds c.args.shelf.now) told (g.H.Shelf.deeds c.keep_whole.new.shelf))
    (λ told. FillsMade c.args.name (g.F.Sink.taking c.args.file) c.args.mount.now (g.H.Shelf.deeds c.args.shelf.now) told c.write_file.new.mount (g.H.Shelf.deeds c.keep_whole.new.shelf))
    (λ told keeps. filling.whole c.in-Ok-Ok.size (g.F.Sink.taking c.write_file.new.out) (rw c.in-Ok-Ok.field-0-is at c.in-Ok-Ok.ensures.writes) keeps) c.keep_whole.ensures.keeps

pub returns-in-Ok-Ok-clause-broken_off : goal.returns-in-Ok-Ok-clause-broken_off
returns-in-Ok-Ok-clause-broken_off g c =
    where_refused c.keep_whole.result (Adds (starved c.args.name) (g.H.Shelf.deeds c.args.shelf.now) (g.H.Shelf.deeds c.keep_whole.new.shelf))
    (BeginsToFillMade c.args.name (g.F.Sink.taking c.args.file) c.args.mount.now (g.H.Shelf.deeds c.args.shelf.now) c.write_file.new.mount (g.H.Shelf.deeds c.keep_whole.new.shelf))
    (λ adds. filling.in_keeping c.in-Ok-Ok.size (g.F.Sink.taking c.write_file.new.out) (rw c.in-Ok-Ok.field-0-is at c.in-Ok-Ok.ensures.writes) adds) c.keep_whole.ensures.refused

pub returns-in-Ok-Err-Stuck-clause-fills : goal.returns-in-Ok-Err-Stuck-clause-fills
returns-in-Ok-Err-Stuck-clause-fills g c = filling.stuck c.in-Ok-Err-Stuck.why (g.F.Sink.taking c.write_file.new.out) (rw (c.in-Ok-Err-Stuck.field-0-is, c.in-Ok-Err-Stuck.field-0-0-is) at c.in-Ok-Err-Stuck.ensures.writes) c.discard.ensures (ap filled.Stuck c.in-Ok-Err-Stuck.why-is)

pub returns-in-Ok-Err-Broken-clause-fills : goal.returns-in-Ok-Err-Broken-clause-fills
returns-in-Ok-Err-Broken-clause-fills g c = filling.broken (g.F.Sink.taking c.write_file.new.out) (rw (c.in-Ok-Err-Broken.field-0-is, c.in-Ok-Err-Broken.field-0-0-is) at c.in-Ok-Err-Broken.ensures.writes) c.discard-in-Ok-Err-Broken.ensures refl

pub returns-in-Err-clause-broken_off : goal.returns-in-Err-clause-broken_off
returns-in-Err-clause-broken_off g c = filling.in_writing (g.F.Sink.taking c.write_file.new.out) c.in-Err.ensures.broken_off c.discard-in-Err.ensures
