use Rattle.std.proofs.Common.{◌≡◌, take}
use Rattle.lone_flow.specs.Naming.{names_in}
use Rattle.lone_flow.proofs.naming.all_names.Given as goal

abbrev pub invariant-loop-region : goal.invariant-loop-region
invariant-loop-region l = l.names.items ≡ names_in (take l.region-index l.regions)
