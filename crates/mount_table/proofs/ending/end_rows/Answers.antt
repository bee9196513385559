use Rattle.std.proofs.Common.{◌<◌, ◌≤◌, List, length, ◌∙◌, ap, sym, subst}
use Rattle.mount_model.specs.declared.row.Row.{Row}
use Rattle.mount_table.proofs.Ended.{next_ended, all_ended, written_back}
use Rattle.mount_table.proofs.ending.end_rows.Goals as goal

pub loop-row-preserved : goal.loop-row-preserved
loop-row-preserved c =
    let within = subst (λ (l : List Row). c.loop-row.row-index < length l) c.deref_mut-row-items.ensures.value c.loop-row-test.true in
    rw c.end.ensures (next_ended c.args.caller c.loop-row.row-index c.args.rows.now.items c.loop-row.row-items c.row-item.result c.loop-row.invariant within c.row-item.is)

pub returns : goal.returns
returns c =
    let within = subst (λ (l : List Row). length l ≤ c.loop-row.row-index) c.deref_mut-row-items.ensures.value c.loop-row-test.false in
    written_back c.args.caller c.args.rows.now.len c.args.rows.now.items c.loop-row.row-items (c.loop-row.invariant ∙ all_ended c.args.caller c.loop-row.row-index c.args.rows.now.items within) (sym c.deref_mut-row-items.ensures.len ∙ ap (λ (l : List Row). length l) c.deref_mut-row-items.ensures.value)
