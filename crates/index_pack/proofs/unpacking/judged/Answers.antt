use Rattle.std.proofs.Common.{arith, ◌∙◌}
use Rattle.index_pack.proofs.Judging.{found}
use Rattle.index_pack.proofs.unpacking.judged.Goals as goal

pub returns-in-Ok-entries_in-clause-found : goal.returns-in-Ok-entries_in-clause-found
returns-in-Ok-entries_in-clause-found c =
    found c.args.bytes.now c.in-Ok.runs c.from_vec.result (λ i. omega (arith, c.type_inv.bytes i))
    c.in-Ok.ensures.head.0 c.in-Ok.ensures.head.1 c.in-Ok.ensures.head.2 c.in-Ok.ensures.count c.in-Ok.ensures.valid c.in-Ok.ensures.entries
    (c.from_vec.ensures ∙ c.in-Ok-entries_in.ensures)
