use Rattle.std.proofs.Common.{◌∷◌, ◌++◌, [], sym, ◌∙◌, arith}
use Rattle.std.proofs.lemmas.List.FromFn.{map-range_with_len_more}
use Rattle.script_lang.specs.Generated.{writer}
use Rattle.script_lang.proofs.generated.writers.Goals as goal

pub loop-i-preserved : goal.loop-i-preserved
loop-i-preserved c = record {
  so_far = c.in_ok-push.ensures.ok ∙ ((λ i. c.loop-i.invariant.so_far i ++ c.in_ok-writer.ensures i ∷ []) ∙ sym (map-range_with_len_more writer 0 c.loop-i.i c.loop-i.i (omega arith)));
}
