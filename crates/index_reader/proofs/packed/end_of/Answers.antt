use Rattle.std.proofs.Common.{arith, sym}
use Rattle.index_reader.proofs.Indices.PackedLemmas.{ends_all, stamped_last}
use Rattle.index_reader.proofs.packed.end_of.Goals as goal

pub overflow_add-result : goal.overflow_add-result
overflow_add-result c =
    let e = ends_all c.args.entries.now c.in-Some.entry.now c.requires (sym c.in-Some.ensures.value) in
    let near = c.requires.near in
    omega (arith, e, near)

pub returns-in-Some-clause-bytes : goal.returns-in-Some-clause-bytes
returns-in-Some-clause-bytes c = ends_all c.args.entries.now c.in-Some.entry.now c.requires (sym c.in-Some.ensures.value)

pub returns-in-Some-clause-stamp : goal.returns-in-Some-clause-stamp
returns-in-Some-clause-stamp c = stamped_last c.args.entries.now c.in-Some.entry.now (sym c.in-Some.ensures.value)
