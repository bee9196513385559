use Rattle.std.specs.List.{AllWithin}
use Rattle.store_folder.specs.Paths.{IsNameable}
use Rattle.store_folder.proofs.building.check_parts.Given as goal

abbrev pub invariant-loop-name : goal.invariant-loop-name
invariant-loop-name l = record { named : AllWithin IsNameable l.names 0 l.name-index }
