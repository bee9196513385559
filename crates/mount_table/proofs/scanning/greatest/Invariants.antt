use Rattle.std.proofs.Common.{take}
use Rattle.mount_table.specs.Scanning.{IsScanned}
use Rattle.mount_table.proofs.scanning.greatest.Given as goal

abbrev pub invariant-loop-name : goal.invariant-loop-name
invariant-loop-name l = IsScanned l.listing (take l.name-index l.names) l.greatest l.other
