use Rattle.mount_table.specs.contracts.roster.Roster.{the_view}
use Rattle.mount_table.proofs.Admits.{take_keeps}
use Rattle.mount_table.proofs.roster.Roster.forget_last.Goals as goal

pub invariant_of-self : goal.invariant_of-self
invariant_of-self c = rw c.truncate.ensures.items (take_keeps (the_view c.self.inside) _ c.self.invariant)
