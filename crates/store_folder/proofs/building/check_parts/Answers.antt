use Rattle.std.proofs.Common.{arith}
use Rattle.store_folder.specs.Paths.{IsNameable}
use Rattle.store_folder.proofs.ForEach.{within_more}
use Rattle.store_folder.proofs.building.check_parts.Goals as goal

pub loop-name-preserved : goal.loop-name-preserved
loop-name-preserved c =
    record { named = within_more IsNameable c.args.names.now c.loop-name.name-index c.name-item.result c.loop-name-test.true c.name-item.is c.loop-name.invariant.named c.in_ok-check_part.ensures.part }

pub returns-clause-parts : goal.returns-clause-parts
returns-clause-parts c k d within = c.loop-name.invariant.named k d (omega arith) (omega arith)
