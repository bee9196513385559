use Rattle.std.proofs.Common.{arith}
use Rattle.export_program.proofs.Pieces.{all_so, ends_so, one_more}
use Rattle.export_program.proofs.exporting.write_pieces.Goals as goal

pub returns-in-Err-clause-writes : goal.returns-in-Err-clause-writes
returns-in-Err-clause-writes g c =
    ends_so c.args.reader.now c.args.mount.now (g.O.Sink.taking c.args.out.now) c.loop-k.k c.loop-k.mount (g.O.Sink.taking c.loop-k.out) c.write_piece.new.mount (g.O.Sink.taking c.write_piece.new.out) c.in-Err.why c.loop-k.invariant.so_far (rw c.in-Err.is at c.in_ok-why.ensures.writes)

pub loop-k-preserved : goal.loop-k-preserved
loop-k-preserved g c = record {
  so_far = one_more c.args.reader.now c.args.mount.now (g.O.Sink.taking c.args.out.now) c.loop-k.k c.loop-k.mount (g.O.Sink.taking c.loop-k.out) c.write_piece.new.mount (g.O.Sink.taking c.write_piece.new.out) c.in_default.field-0 c.loop-k.invariant.so_far (rw c.in_default.is at c.in_ok-why.ensures.writes);
  fine = c.in_ok-why.ensures.fine;
}

pub returns-clause-writes : goal.returns-clause-writes
returns-clause-writes g c =
    all_so c.args.reader.now c.args.mount.now (g.O.Sink.taking c.args.out.now) c.loop-k.k c.size-size.result c.loop-k.mount (g.O.Sink.taking c.loop-k.out) c.loop-k.invariant.so_far (omega (arith, c.loop-k.auto.k-end, c.loop-k-test.false, c.div_ceil-k-end.ensures)) c.size-size.ensures
