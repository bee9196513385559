use Rattle.std.proofs.Common.{rules, ◌∙◌, ap}
use Rattle.std.proofs.lemmas.List.Sorted.{IsNonDecreasingBy-from_sort_by_key, answers_always}
use Rattle.mount_model.specs.declared.names.OpenEntry.{OpenEntry}
use Rattle.mount_model.specs.Order.{ordered_by}
use Rattle.mount_model.proofs.Flows.OrderLemmas.{ordered_by-is}
use Rattle.mount_model.proofs.order.entries_by_writer.Goals as goal

pub returns : goal.returns
returns c =
    let up = IsNonDecreasingBy-from_sort_by_key (λ (t : OpenEntry). t.writer) c.sort_by_key.new.self.items c.in_ok-sort_by_key.ensures.sorted (λ a r q k. search rules) in
    let stable = c.sort_by_key.ensures.stable (λ (t : OpenEntry). t.writer) (answers_always _ _ _ (λ f a r g called. search rules)) in
    c.from_vec.ensures ∙ ordered_by-is (λ (t : OpenEntry). t.writer) _ _ up stable ∙ ap (ordered_by (λ (t : OpenEntry). t.writer)) c.into_vec-items.ensures
