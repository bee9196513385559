use Rattle.std.proofs.Common.{nat_lt, rules, sym, ◌∙◌}
use Rattle.std.proofs.lemmas.List.Sorted.{IsPartitionPoint-from_clause}
use Rattle.mount_model.specs.declared.row.Flattening.{Flattening}
use Rattle.mount_table.proofs.Numbered.{partitioned, passed, found_here, past_all, other_here}
use Rattle.mount_table.proofs.Holds.{flattening_is}
use Rattle.mount_table.proofs.flattenings.place_of.Goals as goal
use Rattle.mount_table.proofs.flattenings.place_of.Goals.{else-place-flattenings-via-then-place-flattenings+else-flattenings-place, else-place-flattenings-via-else-place-flattenings}

pub returns-then-flattenings-place-clause-some : goal.returns-then-flattenings-place-clause-some
returns-then-flattenings-place-clause-some c =
    let point = IsPartitionPoint-from_clause (λ (f : Flattening). nat_lt f.id c.args.id) c.args.flattenings.now c.partition_point-place.result c.partition_point-place.ensures.partitioned
    (partitioned (λ (f : Flattening). f.id) c.args.id c.args.flattenings.now c.requires) (λ a r q k. search rules) in
    let past = passed (λ (f : Flattening). f.id) c.args.id c.partition_point-place.result c.args.flattenings.now c.partition_point-place.ensures.bound point.0 point.1 in
    found_here (λ (f : Flattening). f.id) c.args.id c.partition_point-place.result c.args.flattenings.now _ past c.if-place-flattenings.true c.if-flattenings-place.true ∙ sym (flattening_is c.args.id c.args.flattenings.now)

pub returns-else-place-flattenings-clause-none : goal.returns-else-place-flattenings-clause-none
returns-else-place-flattenings-clause-none c =
    let point = IsPartitionPoint-from_clause (λ (f : Flattening). nat_lt f.id c.args.id) c.args.flattenings.now c.partition_point-place.result c.partition_point-place.ensures.partitioned
    (partitioned (λ (f : Flattening). f.id) c.args.id c.args.flattenings.now c.requires) (λ a r q k. search rules) in
    let past = passed (λ (f : Flattening). f.id) c.args.id c.partition_point-place.result c.args.flattenings.now c.partition_point-place.ensures.bound point.0 point.1 in
    flattening_is c.args.id c.args.flattenings.now ∙ elim c.else-place-flattenings.branch [
      | else-place-flattenings-via-then-place-flattenings+else-flattenings-place w ↦ other_here (λ (f : Flattening). f.id) c.args.id c.partition_point-place.result c.args.flattenings.now _ c.requires past w.if-place-flattenings.true w.if-flattenings-place.false
      | else-place-flattenings-via-else-place-flattenings w ↦ past_all (λ (f : Flattening). f.id) c.args.id c.partition_point-place.result c.args.flattenings.now past w.if-place-flattenings.false
    ]
