use Rattle.std.proofs.Common.{◌≡◌, ◌++◌, drop}
use Rattle.index_entry.specs.Spelling.{spelling_all}
use Rattle.drain_copy.proofs.parts.spelled.Given as goal

abbrev pub invariant-loop-entry : goal.invariant-loop-entry
invariant-loop-entry l = l.bytes.items ++ spelling_all (drop l.entry-index l.entries) ≡ spelling_all l.entries
