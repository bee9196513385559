use Rattle.std.proofs.Common.{rules}
use Rattle.std.proofs.lemmas.List.Sorted.{IsNonDecreasingBy-from_sort_by_key, answers_always}
use Rattle.plfs_types.specs.declared.entries.Trunc.{Trunc}
use Rattle.mount_model.proofs.Flows.OrderLemmas.{ordered_by-is}
use Rattle.mount_model.proofs.order.by_stamp.Goals as goal

pub returns : goal.returns
returns c =
    let up = IsNonDecreasingBy-from_sort_by_key (λ (t : Trunc). t.stamp) c.sort_by_key.new.self.items c.in_ok-sort_by_key.ensures.sorted (λ a r q k. search rules) in
    let stable = c.sort_by_key.ensures.stable (λ (t : Trunc). t.stamp) (answers_always _ _ _ (λ f a r g called. search rules)) in
    ordered_by-is (λ (t : Trunc). t.stamp) _ _ up stable
