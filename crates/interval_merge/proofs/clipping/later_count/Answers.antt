use Rattle.std.proofs.Common.{◌-◌, ℕ, nat_le, rules, arith}
use Rattle.std.proofs.lemmas.List.Sorted.{IsPartitionPoint-from_clause}
use Rattle.plfs_types.specs.declared.entries.Trunc.{Trunc}
use Rattle.interval_merge.proofs.CutLemmas.{partitioned, limit-no_later, limit-last}
use Rattle.interval_merge.proofs.clipping.later_count.Goals as goal

pub returns-clause-no_later : goal.returns-clause-no_later
returns-clause-no_later c = λ none.
    let point = IsPartitionPoint-from_clause (λ (t : Trunc). nat_le c.args.stamp t.stamp) c.args.cuts.now c.partition_point.result c.partition_point.ensures.partitioned
    (partitioned c.args.stamp c.args.cuts.now c.requires.fall) (λ a r q k. search rules) in
    limit-no_later c.args.stamp c.args.cuts.now (λ k d low high. point.1 k d (omega arith) high)

pub returns-clause-last_of_later : goal.returns-clause-last_of_later
returns-clause-last_of_later c = λ d some.
    let point = IsPartitionPoint-from_clause (λ (t : Trunc). nat_le c.args.stamp t.stamp) c.args.cuts.now c.partition_point.result c.partition_point.ensures.partitioned
    (partitioned c.args.stamp c.args.cuts.now c.requires.fall) (λ a r q k. search rules) in
    let n : ℕ = c.partition_point.result - 1 in
    limit-last c.args.stamp c.args.cuts.now n d c.requires.lower c.requires.within
    (λ k e low high. point.0 k e low (omega arith)) (λ k e low high. point.1 k e (omega arith) high) (omega (arith, c.partition_point.ensures.bound))
