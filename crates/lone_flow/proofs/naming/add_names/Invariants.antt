use Rattle.std.proofs.Common.{◌≡◌, ◌++◌, take}
use Rattle.lone_flow.specs.Naming.{names_of}
use Rattle.lone_flow.proofs.naming.add_names.Given as goal

abbrev pub invariant-loop-unit : goal.invariant-loop-unit
invariant-loop-unit l = l.names.items ≡ l.fn.names.items ++ names_of (take l.unit-index l.units)
