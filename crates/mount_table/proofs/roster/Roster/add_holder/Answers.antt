use Rattle.std.proofs.Common.{subst, sym}
use Rattle.mount_table.specs.Roll.{Roll}
use Rattle.mount_table.specs.Admitting.{IsNewHolder}
use Rattle.mount_table.specs.contracts.roster.Roster.{the_view}
use Rattle.mount_table.proofs.Holds.{add_holder_keeps}
use Rattle.mount_table.proofs.roster.Roster.add_holder.Goals as goal

pub invariant_of-self-2 : goal.invariant_of-self-2
invariant_of-self-2 c =
    rw c.in_ok-push.ensures.items
    (add_holder_keeps (the_view c.self.inside) c.args.holder c.self.invariant (subst (λ (r : Roll). IsNewHolder r c.args.holder) (sym c.self.view_is) c.requires))
