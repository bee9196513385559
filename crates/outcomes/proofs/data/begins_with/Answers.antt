use Rattle.std.proofs.Common.{length, arith}
use Rattle.outcomes.proofs.Agreeing.{begins_so}
use Rattle.outcomes.proofs.data.begins_with.Goals as goal

pub returns : goal.returns
returns c = λ told.
    let wanted = c.args.wanted.now in
    begins_so wanted c.args.found.now (omega (arith, c.if-found-wanted.false)) (c.are_same_bytes.ensures.0 told)
