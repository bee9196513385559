use Rattle.std.proofs.Common.{◌≡◌, ◌++◌, [], None, drop, option_to_list}
use Rattle.interval_merge.proofs.WriterLemmas.{Laid}
use Rattle.interval_merge.proofs.writer.forward_runs.Given as goal

abbrev pub invariant-loop-entry : goal.invariant-loop-entry
invariant-loop-entry l = record {
  laid : Laid (l.done ++ option_to_list l.last) (drop l.entry-index l.entries) l.entries;
  started : l.last ≡ None → l.done ≡ [];
}
