use Rattle.mount_table.proofs.scanning.number_in.Goals as goal

pub returns-in-Truncates-clause-none : goal.returns-in-Truncates-clause-none
returns-in-Truncates-clause-none c = rw c.in-Truncates.is c.stamp_of.ensures.none
