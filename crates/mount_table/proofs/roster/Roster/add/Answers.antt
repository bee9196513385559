use Rattle.std.proofs.Common.{subst, sym}
use Rattle.mount_table.specs.Roll.{Roll}
use Rattle.mount_table.specs.Admitting.{IsNewcomer}
use Rattle.mount_table.specs.contracts.roster.Roster.{the_view}
use Rattle.mount_table.proofs.Admits.{add_keeps}
use Rattle.mount_table.proofs.roster.Roster.add.Goals as goal

pub invariant_of-self-2 : goal.invariant_of-self-2
invariant_of-self-2 c =
    rw c.in_ok-push.ensures.items
    (add_keeps (the_view c.self.inside) c.args.row c.self.invariant (subst (λ (r : Roll). IsNewcomer r c.args.row) (sym c.self.view_is) c.requires))
