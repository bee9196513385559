use Rattle.mount_table.specs.contracts.roster.Roster.{the_view}
use Rattle.mount_table.proofs.Holds.{drop_flat_keeps, drop_flat_is, drop_flat_none}
use Rattle.mount_table.proofs.roster.Roster.drop_flat.Goals as goal

pub invariant_of-self : goal.invariant_of-self
invariant_of-self c =
    let roll = the_view c.self.inside in
    rw c.remove.ensures.items (drop_flat_keeps roll c.args.id c.in-Some.place c.self.invariant (rw c.deref.ensures.value at c.in-Some.ensures.some) (rw c.deref.ensures.value at c.in-Some.ensures.within))

pub returns-in-Some : goal.returns-in-Some
returns-in-Some c =
    let roll = the_view c.self.inside in
    rw c.remove.ensures.items (drop_flat_is roll c.args.self.now c.args.id c.in-Some.place c.self.view_is c.self.invariant (rw c.deref.ensures.value at c.in-Some.ensures.some) (rw c.deref.ensures.value at c.in-Some.ensures.within))

pub returns-in_default : goal.returns-in_default
returns-in_default c = drop_flat_none (the_view c.self.inside) c.args.self.now c.args.id c.self.view_is (rw c.deref.ensures.value at c.in_default.ensures.none)
