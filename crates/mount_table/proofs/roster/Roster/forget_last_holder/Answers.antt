use Rattle.mount_table.specs.contracts.roster.Roster.{the_view}
use Rattle.mount_table.proofs.Holds.{take_holders_keeps}
use Rattle.mount_table.proofs.roster.Roster.forget_last_holder.Goals as goal

pub invariant_of-self : goal.invariant_of-self
invariant_of-self c = rw c.truncate.ensures.items (take_holders_keeps (the_view c.self.inside) _ c.self.invariant)
