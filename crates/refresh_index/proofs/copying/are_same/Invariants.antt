use Rattle.std.proofs.Common.{◌≡◌, drop}
use Rattle.refresh_index.specs.Refreshing.{same_truncs}
use Rattle.refresh_index.proofs.copying.are_same.Given as goal

abbrev pub invariant-loop-trunc : goal.invariant-loop-trunc
invariant-loop-trunc l = same_truncs (drop l.trunc-index l.some) l.rest ≡ same_truncs l.some l.others
