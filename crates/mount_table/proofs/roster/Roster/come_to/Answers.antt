use Rattle.std.proofs.Common.{refl}
use Rattle.mount_table.specs.contracts.roster.Roster.{the_view}
use Rattle.mount_table.proofs.Holds.{come_to_keeps, come_to_is}
use Rattle.mount_table.proofs.roster.Roster.come_to.Goals as goal

pub invariant_of-self : goal.invariant_of-self
invariant_of-self c =
    come_to_keeps (the_view c.self.inside) c.args.flattening.id c.in-Some.place c.index_mut.result.now _ c.self.invariant (rw c.deref.ensures.value at c.in-Some.ensures.within) c.index_mut.ensures.value refl refl

pub returns-in-Some : goal.returns-in-Some
returns-in-Some c =
    come_to_is (the_view c.self.inside) c.args.self.now c.in-Some.place c.args.stage c.args.flattening c.index_mut.result.now c.self.view_is c.self.invariant (rw c.deref.ensures.value at c.in-Some.ensures.some) (rw c.deref.ensures.value at c.in-Some.ensures.within) c.requires c.index_mut.ensures.value
