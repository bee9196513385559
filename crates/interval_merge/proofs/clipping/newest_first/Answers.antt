use Rattle.std.proofs.Common.{ap, ◌∙◌, rules}
use Rattle.std.proofs.lemmas.List.Sorted.{answers_always}
use Rattle.interval_merge.specs.Clip.{limit}
use Rattle.interval_merge.proofs.CutLemmas.{limit-permuted, StampsFall-from_sort}
use Rattle.interval_merge.proofs.clipping.newest_first.Goals as goal

pub returns-clause-fall : goal.returns-clause-fall
returns-clause-fall c =
    StampsFall-from_sort c.sort_by_key.new.self.items (c.in_ok-sort_by_key.ensures.sorted (λ t. record { 0 = t.stamp }) (answers_always _ _ _ (λ f a r g called. search rules)))

pub returns-clause-same : goal.returns-clause-same
returns-clause-same c = λ stamp.
    limit-permuted stamp c.in_ok-order.order.items c.sort_by_key.new.self.items c.sort_by_key.ensures.permutation ∙ ap (λ ts. limit ts stamp) c.in_ok-order.ensures.items
