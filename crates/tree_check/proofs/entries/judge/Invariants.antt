use Rattle.std.proofs.Common.{◌≡◌, ◌*◌}
use Rattle.tree_check.proofs.EntryLemmas.{AreFine}
use Rattle.tree_check.proofs.entries.judge.Given as goal

-- the entries so far are in order, and this is where they end
abbrev pub invariant-loop-entry : goal.invariant-loop-entry
invariant-loop-entry l = record {
  fine : AreFine l.writer l.entries l.entry-index l.last l.logged;
  placed : l.place ≡ 40 * l.entry-index;
}
