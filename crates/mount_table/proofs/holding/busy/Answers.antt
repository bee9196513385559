use Rattle.mount_table.proofs.Holds.{no_entry}
use Rattle.mount_table.proofs.holding.busy.Goals as goal

pub returns-in_default-2-clause-none : goal.returns-in_default-2-clause-none
returns-in_default-2-clause-none c = no_entry c.openhosts.result c.args.name.now c.read.result c.openhosts.ensures c.read.ensures.only c.in_default.is
