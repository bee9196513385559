use Rattle.std.proofs.Common.{◌≡◌, drop}
use Rattle.index_reader.specs.Scanning.{taken_all}
use Rattle.index_reader.proofs.scanning.Scan.take_all.Given as goal

abbrev pub invariant-loop-name : goal.invariant-loop-name
invariant-loop-name l = taken_all l.folder (drop l.name-index l.names) l.self ≡ taken_all l.folder l.names l.fn.self
