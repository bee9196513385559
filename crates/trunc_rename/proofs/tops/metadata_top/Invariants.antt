use Rattle.std.proofs.Common.{◌≡◌, drop}
use Rattle.trunc_rename.specs.Tops.{metadata_top}
use Rattle.trunc_rename.proofs.tops.metadata_top.Given as goal

abbrev pub invariant-loop-name : goal.invariant-loop-name
invariant-loop-name l = metadata_top (drop l.name-index l.names) l.top ≡ metadata_top l.names 0
