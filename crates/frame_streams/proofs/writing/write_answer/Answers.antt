use Rattle.std.proofs.Common.{ℕ, List, subst}
use Rattle.frame_format.specs.Telling.{answer_head}
use Rattle.frame_streams.specs.Writing.{IsCutOff, IsWritten}
use Rattle.frame_streams.proofs.Outputs.{cut_second, on_err}
use Rattle.frame_streams.proofs.writing.write_answer.Goals as goal

pub returns-in_err-write_all-2-clause-cut_off : goal.returns-in_err-write_all-2-clause-cut_off
returns-in_err-write_all-2-clause-cut_off g c =
    let taking = g.O.Sink.taking in
    let front : IsWritten (answer_head c.args.answer.now) (taking c.args.out.now) (taking c.write_all.new.out) =
    subst (λ (z : List ℕ). IsWritten z (taking c.args.out.now) (taking c.write_all.new.out)) c.head-head.ensures c.in_ok-write_all.ensures.written in
    let rest : IsCutOff c.args.answer.now.payload (taking c.write_all.new.out) (taking c.write_all-2.new.out) =
    subst (λ (z : List ℕ). IsCutOff z (taking c.write_all.new.out) (taking c.write_all-2.new.out)) c.as_slice.ensures c.in_err-write_all-2.ensures.cut_off in
    on_err c.from_residual-in_err-write_all-2.result _ (cut_second (answer_head c.args.answer.now) c.args.answer.now.payload (taking c.args.out.now) (taking c.write_all.new.out) (taking c.write_all-2.new.out) front rest)
