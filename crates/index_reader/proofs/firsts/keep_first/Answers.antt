use Rattle.std.proofs.Common.{◌∙◌, ap, refl, sym, subst, Some}
use Rattle.std.specs.Prelude.{is_some, cond}
use Rattle.std.specs.BTreeMap.{is_at}
use Rattle.std.specs.Ordering.{nat_cmp}
use Rattle.index_reader.specs.Firsts.{AreAtOwn}
use Rattle.index_reader.proofs.Indices.FirstLemmas.{kept_first, taken_first, own_inserted}
use Rattle.index_reader.proofs.firsts.keep_first.Goals as goal

pub returns-then-contains_key : goal.returns-then-contains_key
returns-then-contains_key c = λ told has.
    let there = ap is_some (sym (has.finds c.args.cover.now.writer)) ∙ sym c.contains_key.ensures ∙ c.if-contains_key.true in
    record { finds = λ w. has.finds w ∙ sym (kept_first w told c.args.cover.now there); own = has.own; ordered = has.ordered }

pub returns : goal.returns
returns c = λ told has.
    let absent = ap is_some (sym (has.finds c.args.cover.now.writer)) ∙ sym c.contains_key.ensures ∙ c.if-contains_key.false in
    record {
      finds = λ q. c.in_ok-insert.ensures.updates.0 q ∙ ap (λ o. cond (is_at (nat_cmp c.args.cover.now.writer) q) (Some c.args.cover.now) o) (has.finds q) ∙ taken_first q told c.args.cover.now absent;
      own = subst AreAtOwn (sym c.in_ok-insert.ensures.entries) (own_inserted c.args.cover.now.writer c.args.cover.now c.args.firsts.now.entries refl has.own);
      ordered = c.in_ok-insert.ensures.ordered;
    }
