use Rattle.std.proofs.Common.{◌≡◌, drop}
use Rattle.trunc_rename.specs.Tops.{truncs_top}
use Rattle.trunc_rename.proofs.tops.truncs_top.Given as goal

abbrev pub invariant-loop-name : goal.invariant-loop-name
invariant-loop-name l = truncs_top (drop l.name-index l.names) l.top ≡ truncs_top l.names l.above
