use Rattle.std.proofs.Common.{nat_lt, rules, sym}
use Rattle.std.proofs.lemmas.List.Sorted.{IsPartitionPoint-from_clause}
use Rattle.plain_file.specs.declared.parts.WriterHost.{WriterHost}
use Rattle.index_reader.proofs.Containers.Found.{partitioned, passed, found_at, past_all, other_here}
use Rattle.index_reader.proofs.hosts.found.Goals as goal
use Rattle.index_reader.proofs.hosts.found.Goals.{else-place-hosts-via-then-place-hosts+else-hosts-place, else-place-hosts-via-else-place-hosts}

pub returns-then-hosts-place : goal.returns-then-hosts-place
returns-then-hosts-place c =
    let point = IsPartitionPoint-from_clause (λ (x : WriterHost). nat_lt x.writer c.args.writer) c.args.hosts.now c.partition_point-place.result c.partition_point-place.ensures.partitioned
    (partitioned (λ (x : WriterHost). x.writer) c.args.writer c.args.hosts.now c.requires) (λ a r q k. search rules) in
    let past = passed (λ (x : WriterHost). x.writer) c.args.writer c.partition_point-place.result c.args.hosts.now c.partition_point-place.ensures.bound point.0 point.1 in
    sym (found_at (λ (x : WriterHost). x.writer) c.args.writer c.partition_point-place.result c.args.hosts.now _ past c.if-place-hosts.true c.if-hosts-place.true)

pub returns-else-place-hosts : goal.returns-else-place-hosts
returns-else-place-hosts c =
    let point = IsPartitionPoint-from_clause (λ (x : WriterHost). nat_lt x.writer c.args.writer) c.args.hosts.now c.partition_point-place.result c.partition_point-place.ensures.partitioned
    (partitioned (λ (x : WriterHost). x.writer) c.args.writer c.args.hosts.now c.requires) (λ a r q k. search rules) in
    let past = passed (λ (x : WriterHost). x.writer) c.args.writer c.partition_point-place.result c.args.hosts.now c.partition_point-place.ensures.bound point.0 point.1 in
    sym (elim c.else-place-hosts.branch [
      | else-place-hosts-via-then-place-hosts+else-hosts-place w ↦ other_here (λ (x : WriterHost). x.writer) c.args.writer c.partition_point-place.result c.args.hosts.now _ c.requires past w.if-place-hosts.true w.if-hosts-place.false
      | else-place-hosts-via-else-place-hosts w ↦ past_all (λ (x : WriterHost). x.writer) c.args.writer c.partition_point-place.result c.args.hosts.now past w.if-place-hosts.false
    ])
