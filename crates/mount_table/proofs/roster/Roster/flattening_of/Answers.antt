use Rattle.mount_table.specs.contracts.roster.Roster.{the_view}
use Rattle.mount_table.proofs.Holds.{found_there}
use Rattle.mount_table.proofs.roster.Roster.flattening_of.Goals as goal

pub returns-clause-there : goal.returns-clause-there
returns-clause-there c =
    found_there (the_view c.self.inside) c.args.self.now c.args.id c.in_ok-place.place c.index-flattening.result.now c.self.view_is (rw c.deref.ensures.value at c.in_ok-place.ensures.some) (rw c.deref.ensures.value at c.in_ok-place.ensures.within) c.index-flattening.ensures
