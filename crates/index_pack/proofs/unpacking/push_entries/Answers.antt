use Rattle.std.proofs.Common.{List, [], ◌∷◌, ◌++◌, ap, sym, ◌∙◌, append_assoc}
use Rattle.plfs_types.specs.declared.entries.Entry.{Entry}
use Rattle.index_pack.specs.Runs.{entries_from}
use Rattle.index_pack.proofs.Growing.{entries_further}
use Rattle.index_pack.proofs.unpacking.push_entries.Goals as goal

pub loop-index-preserved : goal.loop-index-preserved
loop-index-preserved c =
    c.in_ok-push.ensures.items
    ∙ ap (λ (es : List Entry). es ++ c.nth_entry.result ∷ []) c.loop-index.invariant
    ∙ ap (λ (e : Entry). (c.args.entries.now.items ++ entries_from c.args.run.now 0 c.loop-index.index) ++ e ∷ []) c.nth_entry.ensures
    ∙ append_assoc c.args.entries.now.items (entries_from c.args.run.now 0 c.loop-index.index) _
    ∙ ap (λ (es : List Entry). c.args.entries.now.items ++ es) (sym (entries_further c.args.run.now c.loop-index.index))
