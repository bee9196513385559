use Rattle.std.proofs.Common.{◌≡◌, [], drop}
use Rattle.migrate_core.specs.Chosen.{metas_named}
use Rattle.migrate_core.proofs.chosen.metas_in.Given as goal

abbrev pub invariant-loop-name : goal.invariant-loop-name
invariant-loop-name l = metas_named (drop l.name-index l.names) l.list.items ≡ metas_named l.names []
