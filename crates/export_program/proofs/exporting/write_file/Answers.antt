use Rattle.std.proofs.Common.{refl}
use Rattle.std.proofs.lemmas.Result.{IfOk-weaker}
use Rattle.export_program.specs.Exporting.{BeginsToWrite, BeginsToWriteOut, WritesFile, WritesOut, opens, opens_stuck, to_write}
use Rattle.export_program.proofs.Pieces.{where_refused}
use Rattle.export_program.proofs.exporting.write_file.Goals as goal

pub returns-in-Ok-clause-writes : goal.returns-in-Ok-clause-writes
returns-in-Ok-clause-writes g c =
    IfOk-weaker c.write_pieces-told.result (λ told. WritesOut c.in-Ok.reader c.open_reader.new.mount (g.O.Sink.taking c.args.out.now) told c.write_pieces-told.new.mount (g.O.Sink.taking c.write_pieces-told.new.out))
    (λ told. WritesFile c.args.name c.args.mount.now (g.O.Sink.taking c.args.out.now) told c.write_pieces-told.new.mount (g.O.Sink.taking c.write_pieces-told.new.out)) (λ told out. opens c.in-Ok.reader c.open_reader.new.mount (rw c.in-Ok.is at c.in_ok-reader.ensures.makes) out) c.write_pieces-told.ensures.writes

pub returns-in-Ok-clause-broken_off : goal.returns-in-Ok-clause-broken_off
returns-in-Ok-clause-broken_off g c =
    where_refused c.write_pieces-told.result (BeginsToWriteOut c.in-Ok.reader c.open_reader.new.mount (g.O.Sink.taking c.args.out.now) c.write_pieces-told.new.mount (g.O.Sink.taking c.write_pieces-told.new.out))
    (BeginsToWrite c.args.name c.args.mount.now (g.O.Sink.taking c.args.out.now) c.write_pieces-told.new.mount (g.O.Sink.taking c.write_pieces-told.new.out)) (λ begins. to_write c.in-Ok.reader c.open_reader.new.mount (rw c.in-Ok.is at c.in_ok-reader.ensures.makes) begins) c.write_pieces-told.ensures.broken_off

pub returns-in-Err-clause-writes : goal.returns-in-Err-clause-writes
returns-in-Err-clause-writes g c = opens_stuck c.in-Err.why refl refl (rw c.in-Err.is at c.in_ok-reader.ensures.makes)
