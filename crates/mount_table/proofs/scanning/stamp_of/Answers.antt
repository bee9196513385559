use Rattle.mount_table.proofs.Scans.{none_read}
use Rattle.mount_table.proofs.scanning.stamp_of.Goals as goal

pub returns-in-None-clause-none : goal.returns-in-None-clause-none
returns-in-None-clause-none c = none_read c.truncs.result c.args.name.now c.truncs.ensures c.in-None.ensures.only
