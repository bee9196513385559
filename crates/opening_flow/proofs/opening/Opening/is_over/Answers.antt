use Rattle.std.proofs.Common.{◌≡◌, Bool, sym, subst}
use Rattle.std.specs.Prelude.{◌↔◌, IsTrue}
use Rattle.mount_model.specs.Standing.{rest_of, IsOver}
use Rattle.opening_flow.specs.OpeningStages.{opening_standing}
use Rattle.opening_flow.specs.Parts.{parted}
use Rattle.opening_flow.proofs.Ending.{ended_or_calls}
use Rattle.opening_flow.proofs.opening.Opening.is_over.Goals as goal

pub returns : goal.returns
unfolding opening_standing
returns c =
    subst (λ (b : Bool). IsTrue b ↔ IsOver (rest_of (parted c.args.self.now.part))) (sym c.has_ended.ensures.value) (ended_or_calls c.args.self.now.part c.has_ended.ensures.underway)
