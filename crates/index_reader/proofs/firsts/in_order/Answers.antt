use Rattle.std.proofs.Common.{◌≡◌, ◌∙◌, ap, map, rules, sym}
use Rattle.std.specs.Map.Iter.{deref_pair}
use Rattle.std.proofs.lemmas.Map.Iter.{iter_end}
use Rattle.std.proofs.lemmas.Simd.{map-map}
use Rattle.index_reader.proofs.Indices.FirstLemmas.{values}
use Rattle.index_reader.proofs.firsts.in_order.Goals as goal

pub returns : goal.returns
returns c =
    let all : map deref_pair c.loop-cover.yielded ≡ c.args.firsts.now.entries = search (rules, iter_end) in
    c.loop-cover.invariant ∙ sym (map-map (λ e. e.1) deref_pair c.loop-cover.yielded) ∙ ap values all
