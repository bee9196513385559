use Rattle.mount_table.specs.contracts.roster.Roster.{the_view}
use Rattle.mount_table.proofs.Rolls.{take_out_keeps, take_out_is}
use Rattle.mount_table.proofs.roster.Roster.take_out.Goals as goal

pub invariant_of-self : goal.invariant_of-self
invariant_of-self c = rw c.remove.ensures.items (take_out_keeps (the_view c.self.inside) c.args.place c.self.invariant)

pub returns : goal.returns
returns c = rw c.remove.ensures.items (take_out_is (the_view c.self.inside) c.args.self.now c.args.place c.self.view_is c.self.invariant)
