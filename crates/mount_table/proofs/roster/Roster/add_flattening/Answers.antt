use Rattle.std.proofs.Common.{subst, sym}
use Rattle.mount_table.specs.Roll.{Roll}
use Rattle.mount_table.specs.Admitting.{IsNewFlattening}
use Rattle.mount_table.specs.contracts.roster.Roster.{the_view}
use Rattle.mount_table.proofs.Holds.{add_flattening_keeps}
use Rattle.mount_table.proofs.roster.Roster.add_flattening.Goals as goal

pub invariant_of-self-2 : goal.invariant_of-self-2
invariant_of-self-2 c =
    rw c.in_ok-push.ensures.items
    (add_flattening_keeps (the_view c.self.inside) c.args.flattening c.self.invariant (subst (λ (r : Roll). IsNewFlattening r c.args.flattening) (sym c.self.view_is) c.requires))
