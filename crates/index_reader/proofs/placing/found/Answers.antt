use Rattle.std.proofs.Common.{nat_lt, rules, sym}
use Rattle.std.proofs.lemmas.List.Sorted.{IsPartitionPoint-from_clause}
use Rattle.index_reader.specs.declared.listing.Dropping.{Dropping}
use Rattle.index_reader.proofs.Containers.Found.{partitioned, passed, found_at, past_all, other_here}
use Rattle.index_reader.proofs.placing.found.Goals as goal
use Rattle.index_reader.proofs.placing.found.Goals.{else-place-droppings-via-then-place-droppings+else-droppings-place, else-place-droppings-via-else-place-droppings}

pub returns-then-droppings-place : goal.returns-then-droppings-place
returns-then-droppings-place c =
    let point = IsPartitionPoint-from_clause (λ (x : Dropping). nat_lt x.writer c.args.writer) c.args.droppings.now c.partition_point-place.result c.partition_point-place.ensures.partitioned
    (partitioned (λ (x : Dropping). x.writer) c.args.writer c.args.droppings.now c.requires) (λ a r q k. search rules) in
    let past = passed (λ (x : Dropping). x.writer) c.args.writer c.partition_point-place.result c.args.droppings.now c.partition_point-place.ensures.bound point.0 point.1 in
    sym (found_at (λ (x : Dropping). x.writer) c.args.writer c.partition_point-place.result c.args.droppings.now _ past c.if-place-droppings.true c.if-droppings-place.true)

pub returns-else-place-droppings : goal.returns-else-place-droppings
returns-else-place-droppings c =
    let point = IsPartitionPoint-from_clause (λ (x : Dropping). nat_lt x.writer c.args.writer) c.args.droppings.now c.partition_point-place.result c.partition_point-place.ensures.partitioned
    (partitioned (λ (x : Dropping). x.writer) c.args.writer c.args.droppings.now c.requires) (λ a r q k. search rules) in
    let past = passed (λ (x : Dropping). x.writer) c.args.writer c.partition_point-place.result c.args.droppings.now c.partition_point-place.ensures.bound point.0 point.1 in
    sym (elim c.else-place-droppings.branch [
      | else-place-droppings-via-then-place-droppings+else-droppings-place w ↦ other_here (λ (x : Dropping). x.writer) c.args.writer c.partition_point-place.result c.args.droppings.now _ c.requires past w.if-place-droppings.true w.if-droppings-place.false
      | else-place-droppings-via-else-place-droppings w ↦ past_all (λ (x : Dropping). x.writer) c.args.writer c.partition_point-place.result c.args.droppings.now past w.if-place-droppings.false
    ])
