use Rattle.std.proofs.Common.{Option, sym, ◌∙◌, subst}
use Rattle.std.specs.Prelude.{IfSome}
use Rattle.mount_model.specs.Step.{OwedBy}
use Rattle.mount_model.specs.declared.call.Call.{Call}
use Rattle.gather_flow.specs.declared.gathering.Gathering.{Gathering}
use Rattle.gather_flow.specs.declared.gathering.Gathering.TheVariants.{Shares}
use Rattle.gather_flow.specs.declared.gathering.Tried.TheVariants as tried
use Rattle.gather_flow.specs.Called.{IsTried}
use Rattle.gather_flow.proofs.Machines.{share_asks}
use Rattle.gather_flow.proofs.gathering.Gathering.call.Goals as goal

pub returns-in-Some : goal.returns-in-Some
returns-in-Some c =
    let P : Gathering → Type 0 = λ g. IsTried g (tried.Asks c.in-Some.call (Shares c.next.new.self c.in-Shares.listed c.in-Shares.workers c.in-Shares.worker c.in-Shares.sofar)) in
    let Q : Option Call → Type 0 = λ o. IfSome o OwedBy in
    let told = c.in-Ok.ensures in
    subst P (sym c.in-Shares.is)
    (share_asks c.in-Shares.flow c.next.new.self c.in-Shares.listed c.in-Shares.workers c.in-Shares.worker c.in-Shares.sofar c.in-Some.call
    (sym c.in-Some.is ∙ told.call) told.rest (subst Q c.in-Some.is told.owed) told.left)
