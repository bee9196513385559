use Rattle.std.proofs.Common.{◌≡◌, arith, sym, subst}
use Rattle.frame_format.specs.declared.head.Head.{Head}
use Rattle.frame_format.specs.Heads.{head_bytes}
use Rattle.frame_format.proofs.HeadNumbers.{spelled, head_is, head_of_numbers}
use Rattle.frame_format.proofs.head.Head.read.Goals as goal

pub returns-clause-found : goal.returns-clause-found
returns-clause-found c =
    subst (λ (z : Head). c.args.bytes.now ≡ head_bytes z)
    (sym (head_of_numbers c.args.bytes.now _ _ _ _ _ _ c.number_at.ensures c.number_at-2.ensures c.number_at-3.ensures c.number_at-4.ensures c.number_at-5.ensures c.number_at-6.ensures))
    (spelled c.args.bytes.now (λ i. omega (arith, c.type_inv.bytes i)) c.requires)

pub returns-clause-only : goal.returns-clause-only
returns-clause-only c = λ head fits same.
    head_is c.args.bytes.now _ head
    (head_of_numbers c.args.bytes.now _ _ _ _ _ _ c.number_at.ensures c.number_at-2.ensures c.number_at-3.ensures c.number_at-4.ensures c.number_at-5.ensures c.number_at-6.ensures)
    fits same
