use Rattle.std.proofs.Common.{◌≡◌, map}
use Rattle.index_reader.specs.Scanning.{owner}
use Rattle.index_reader.proofs.owners.Owners.list.Given as goal

abbrev pub invariant-loop-writer : goal.invariant-loop-writer
invariant-loop-writer l = l.list.items ≡ map (λ e. owner e.1.now e.0.now) l.yielded
