use Rattle.std.proofs.Common.{◌≡◌, ◌∙◌, ap, map, rules, sym, subst}
use Rattle.std.specs.Map.Iter.{deref_pair}
use Rattle.std.proofs.lemmas.Map.Iter.{iter_end}
use Rattle.std.proofs.lemmas.Simd.{map-map}
use Rattle.index_reader.specs.Scanning.{Ascends, owner}
use Rattle.index_reader.proofs.Containers.OwnerLemmas.{owners, owners_ascend}
use Rattle.index_reader.proofs.owners.Owners.list.Goals as goal

pub returns-clause-value : goal.returns-clause-value
returns-clause-value c =
    let all : map deref_pair c.loop-writer.yielded ≡ c.self.inside.hosts.entries = search (rules, iter_end) in
    c.loop-writer.invariant ∙ sym (map-map (λ e. owner e.1 e.0) deref_pair c.loop-writer.yielded) ∙ ap owners all ∙ c.self.view_is

pub returns-clause-ascends : goal.returns-clause-ascends
returns-clause-ascends c =
    let all : map deref_pair c.loop-writer.yielded ≡ c.self.inside.hosts.entries = search (rules, iter_end) in
    subst Ascends (sym (c.loop-writer.invariant ∙ sym (map-map (λ e. owner e.1 e.0) deref_pair c.loop-writer.yielded) ∙ ap owners all))
    (owners_ascend c.self.inside.hosts.entries c.iter-writer-items.ensures.ordered)
