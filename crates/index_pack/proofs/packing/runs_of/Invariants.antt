use Rattle.std.proofs.Common.{◌≡◌, ◌++◌, [], ◌∷◌, take}
use Rattle.index_pack.specs.Runs.{AreMaximal, entries_of}
use Rattle.index_pack.proofs.packing.runs_of.Given as goal

abbrev pub invariant-loop-index : goal.invariant-loop-index
invariant-loop-index l = record {
  maximal : AreMaximal (l.runs.items ++ l.last ∷ []);
  entries : entries_of (l.runs.items ++ l.last ∷ []) ≡ take l.index l.entries;
}
