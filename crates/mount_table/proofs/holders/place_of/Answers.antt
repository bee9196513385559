use Rattle.std.proofs.Common.{nat_lt, rules, sym, ◌∙◌}
use Rattle.std.proofs.lemmas.List.Sorted.{IsPartitionPoint-from_clause}
use Rattle.mount_model.specs.declared.row.Holder.{Holder}
use Rattle.mount_table.proofs.Numbered.{partitioned, passed, found_here, past_all, other_here}
use Rattle.mount_table.proofs.Holds.{holder_is}
use Rattle.mount_table.proofs.holders.place_of.Goals as goal
use Rattle.mount_table.proofs.holders.place_of.Goals.{else-place-holders-via-then-place-holders+else-holders-place, else-place-holders-via-else-place-holders}

pub returns-then-holders-place-clause-some : goal.returns-then-holders-place-clause-some
returns-then-holders-place-clause-some c =
    let point = IsPartitionPoint-from_clause (λ (h : Holder). nat_lt h.number c.args.number) c.args.holders.now c.partition_point-place.result c.partition_point-place.ensures.partitioned
    (partitioned (λ (h : Holder). h.number) c.args.number c.args.holders.now c.requires) (λ a r q k. search rules) in
    let past = passed (λ (h : Holder). h.number) c.args.number c.partition_point-place.result c.args.holders.now c.partition_point-place.ensures.bound point.0 point.1 in
    found_here (λ (h : Holder). h.number) c.args.number c.partition_point-place.result c.args.holders.now _ past c.if-place-holders.true c.if-holders-place.true ∙ sym (holder_is c.args.number c.args.holders.now)

pub returns-else-place-holders-clause-none : goal.returns-else-place-holders-clause-none
returns-else-place-holders-clause-none c =
    let point = IsPartitionPoint-from_clause (λ (h : Holder). nat_lt h.number c.args.number) c.args.holders.now c.partition_point-place.result c.partition_point-place.ensures.partitioned
    (partitioned (λ (h : Holder). h.number) c.args.number c.args.holders.now c.requires) (λ a r q k. search rules) in
    let past = passed (λ (h : Holder). h.number) c.args.number c.partition_point-place.result c.args.holders.now c.partition_point-place.ensures.bound point.0 point.1 in
    holder_is c.args.number c.args.holders.now ∙ elim c.else-place-holders.branch [
      | else-place-holders-via-then-place-holders+else-holders-place w ↦ other_here (λ (h : Holder). h.number) c.args.number c.partition_point-place.result c.args.holders.now _ c.requires past w.if-place-holders.true w.if-holders-place.false
      | else-place-holders-via-else-place-holders w ↦ past_all (λ (h : Holder). h.number) c.args.number c.partition_point-place.result c.args.holders.now past w.if-place-holders.false
    ]
