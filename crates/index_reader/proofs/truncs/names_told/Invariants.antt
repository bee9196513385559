use Rattle.std.proofs.Common.{◌≡◌, [], drop}
use Rattle.index_reader.specs.Truncs.{truncs_listed}
use Rattle.index_reader.proofs.truncs.names_told.Given as goal

abbrev pub invariant-loop-name : goal.invariant-loop-name
invariant-loop-name l = truncs_listed (drop l.name-index l.names) l.list.items ≡ truncs_listed l.names []
