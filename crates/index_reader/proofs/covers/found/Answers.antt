use Rattle.std.proofs.Common.{nat_lt, rules, sym}
use Rattle.std.proofs.lemmas.List.Sorted.{IsPartitionPoint-from_clause}
use Rattle.plfs_types.specs.declared.entries.Cover.{Cover}
use Rattle.index_reader.proofs.Containers.Found.{partitioned, passed, found_at, past_all, other_here}
use Rattle.index_reader.proofs.covers.found.Goals as goal
use Rattle.index_reader.proofs.covers.found.Goals.{else-place-covers-via-then-place-covers+else-covers-place, else-place-covers-via-else-place-covers}

pub returns-then-covers-place : goal.returns-then-covers-place
returns-then-covers-place c =
    let point = IsPartitionPoint-from_clause (λ (x : Cover). nat_lt x.writer c.args.writer) c.args.covers.now c.partition_point-place.result c.partition_point-place.ensures.partitioned
    (partitioned (λ (x : Cover). x.writer) c.args.writer c.args.covers.now c.requires) (λ a r q k. search rules) in
    let past = passed (λ (x : Cover). x.writer) c.args.writer c.partition_point-place.result c.args.covers.now c.partition_point-place.ensures.bound point.0 point.1 in
    sym (found_at (λ (x : Cover). x.writer) c.args.writer c.partition_point-place.result c.args.covers.now _ past c.if-place-covers.true c.if-covers-place.true)

pub returns-else-place-covers : goal.returns-else-place-covers
returns-else-place-covers c =
    let point = IsPartitionPoint-from_clause (λ (x : Cover). nat_lt x.writer c.args.writer) c.args.covers.now c.partition_point-place.result c.partition_point-place.ensures.partitioned
    (partitioned (λ (x : Cover). x.writer) c.args.writer c.args.covers.now c.requires) (λ a r q k. search rules) in
    let past = passed (λ (x : Cover). x.writer) c.args.writer c.partition_point-place.result c.args.covers.now c.partition_point-place.ensures.bound point.0 point.1 in
    sym (elim c.else-place-covers.branch [
      | else-place-covers-via-then-place-covers+else-covers-place w ↦ other_here (λ (x : Cover). x.writer) c.args.writer c.partition_point-place.result c.args.covers.now _ c.requires past w.if-place-covers.true w.if-covers-place.false
      | else-place-covers-via-else-place-covers w ↦ past_all (λ (x : Cover). x.writer) c.args.writer c.partition_point-place.result c.args.covers.now past w.if-place-covers.false
    ])
