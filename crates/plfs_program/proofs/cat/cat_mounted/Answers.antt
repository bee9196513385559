use Rattle.std.proofs.Common.{sym, ◌∙◌, arith}
use Rattle.plfs_program.proofs.Courses.CatCourses.{line_text}
use Rattle.plfs_program.proofs.Streams.CatLemmas.{opening_plays, opening_starves, reads_none, reads_more, reads_all, reads_fail, no_reader}
use Rattle.plfs_program.proofs.cat.cat_mounted.Goals as goal

pub say_line-requires : goal.say_line-requires
say_line-requires g c = line_text c.args.name c.args.mount.now c.make.new.mount c.in-Ok.line (opening_plays c.args.name c.args.mount.now c.make.new.mount c.in-Ok.line c.new-reader.result c.make.new.self (rw c.actor.ensures at c.new-reader.ensures.keeps) (rw c.opening.ensures at c.in-Ok.ensures.made))

pub returns-in_default-reader_size : goal.returns-in_default-reader_size
returns-in_default-reader_size g c =
    no_reader c.args.name c.args.mount.now c.make.new.mount c.in-Ok.line c.say_line.result (g.O.Sink.taking c.args.out.now) (g.O.Sink.taking c.say_line.new.out) (sym c.reader_size.ensures ∙ c.in_default-reader_size.is)
    (opening_plays c.args.name c.args.mount.now c.make.new.mount c.in-Ok.line c.new-reader.result c.make.new.self (rw c.actor.ensures at c.new-reader.ensures.keeps) (rw c.opening.ensures at c.in-Ok.ensures.made)) c.say_line.ensures.told

pub loop-k-init : goal.loop-k-init
loop-k-init g c = record {
  so_far = reads_none c.args.name c.args.mount.now c.make.new.mount c.in-Ok.line c.new-reader.result c.make.new.self (g.O.Sink.taking c.args.out.now) (rw c.actor.ensures at c.new-reader.ensures.keeps) (rw c.opening.ensures at c.in-Ok.ensures.made);
  rests = c.in-Ok.ensures.rests;
}

pub returns-in-Err : goal.returns-in-Err
returns-in-Err g c =
    reads_fail c.args.name c.args.mount.now c.loop-k.mount c.write_piece.new.mount c.in-Ok.line c.loop-k.k c.in-Some.size c.in-Err.status (g.O.Sink.taking c.args.out.now) (g.O.Sink.taking c.loop-k.out) (g.O.Sink.taking c.write_piece.new.out) c.loop-k.reader
    (sym c.reader_size.ensures ∙ c.in-Some.is) (rw c.div_ceil-k-end.ensures at c.loop-k-test.true) c.loop-k.invariant.so_far c.in-Err.ensures.failed

pub loop-k-preserved : goal.loop-k-preserved
loop-k-preserved g c = record {
  so_far = reads_more c.args.name c.args.mount.now c.loop-k.mount c.write_piece.new.mount c.in-Ok.line c.loop-k.k (g.O.Sink.taking c.args.out.now) (g.O.Sink.taking c.loop-k.out) (g.O.Sink.taking c.write_piece.new.out) c.loop-k.reader c.write_piece.new.reader c.loop-k.invariant.so_far c.in_default-write_piece.ensures.wrote;
  rests = c.in_default-write_piece.ensures.rests;
}

pub returns : goal.returns
returns g c =
    reads_all c.args.name c.args.mount.now c.loop-k.mount c.in-Ok.line c.loop-k.k c.in-Some.size (g.O.Sink.taking c.args.out.now) (g.O.Sink.taking c.loop-k.out) c.loop-k.reader
    (sym c.reader_size.ensures ∙ c.in-Some.is) (omega (arith, c.loop-k.auto.k-end, c.loop-k-test.false, c.div_ceil-k-end.ensures)) c.loop-k.invariant.so_far

pub returns-in_default : goal.returns-in_default
returns-in_default g c =
    opening_starves c.args.name c.args.mount.now c.make.new.mount c.actor.result c.opening.result c.new-reader.result (g.O.Sink.taking c.args.out.now) c.actor.ensures c.opening.ensures c.new-reader.ensures.keeps c.in_default.ensures.broken
