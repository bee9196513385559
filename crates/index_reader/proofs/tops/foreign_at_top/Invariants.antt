use Rattle.std.proofs.Common.{◌≡◌, drop}
use Rattle.index_reader.specs.Tops.{foreign_at_top}
use Rattle.index_reader.proofs.tops.foreign_at_top.Given as goal

abbrev pub invariant-loop-name : goal.invariant-loop-name
invariant-loop-name l = foreign_at_top (drop l.name-index l.names) ≡ foreign_at_top l.names
