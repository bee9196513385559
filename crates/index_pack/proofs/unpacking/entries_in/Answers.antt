use Rattle.std.proofs.Common.{List, ◌++◌, ap, sym, ◌∙◌, arith}
use Rattle.plfs_types.specs.declared.entries.Entry.{Entry}
use Rattle.index_pack.specs.Reading.{runs_in}
use Rattle.index_pack.specs.Runs.{run_entries, entries_of}
use Rattle.index_pack.proofs.Growing.{entries_of-push}
use Rattle.index_pack.proofs.ReachedLemmas.{runs_further, entries_fit}
use Rattle.index_pack.proofs.unpacking.entries_in.Goals as goal

pub push_entries-requires : goal.push_entries-requires
push_entries-requires c =
    entries_fit c.args.runs c.args.bytes.now (λ i. omega (arith, c.type_inv.bytes i)) c.requires.valid c.loop-index.index (omega arith) c.run_at.result c.run_at.ensures

pub loop-index-preserved : goal.loop-index-preserved
loop-index-preserved c =
    c.in_ok-push_entries.ensures
    ∙ ap (λ (es : List Entry). es ++ run_entries c.run_at.result) c.loop-index.invariant
    ∙ sym (entries_of-push (runs_in c.loop-index.index c.args.bytes.now) c.run_at.result)
    ∙ ap entries_of (sym (runs_further c.loop-index.index c.args.bytes.now c.run_at.result c.run_at.ensures))
