use Rattle.std.proofs.Common.{◌≡◌, drop}
use Rattle.index_reader.specs.Scanning.{foreign_in}
use Rattle.index_reader.proofs.scanning.foreign_in.Given as goal

abbrev pub invariant-loop-name : goal.invariant-loop-name
invariant-loop-name l = foreign_in l.folder (drop l.name-index l.names) ≡ foreign_in l.folder l.names
