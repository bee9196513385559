use Rattle.std.proofs.Common.{nat_lt, rules}
use Rattle.std.proofs.lemmas.List.Sorted.{IsPartitionPoint-from_clause}
use Rattle.mount_model.specs.declared.row.Row.{Row}
use Rattle.mount_table.proofs.Rows.{partitioned, passed}
use Rattle.mount_table.proofs.places.first_from.Goals as goal

pub returns-clause-passed : goal.returns-clause-passed
returns-clause-passed c =
    let point = IsPartitionPoint-from_clause (λ (r : Row). nat_lt r.id c.args.writer) c.args.rows.now c.partition_point.result c.partition_point.ensures.partitioned
    (partitioned c.args.writer c.args.rows.now c.requires) (λ a r q k. search rules) in
    passed c.args.writer c.partition_point.result c.args.rows.now c.partition_point.ensures.bound point.0 point.1
