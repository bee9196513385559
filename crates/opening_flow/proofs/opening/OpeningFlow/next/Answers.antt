use Rattle.std.proofs.Common.{rules, ◌≡◌, Some, subst}
use Rattle.std.specs.Prelude.{IfSome}
use Rattle.mount_model.specs.Standing.{next_of}
use Rattle.opening_flow.specs.declared.parts.Part.{Part}
use Rattle.opening_flow.specs.OpeningStages.{opening_standing, opening_left}
use Rattle.opening_flow.specs.Parts.{parted}
use Rattle.opening_flow.proofs.opening.OpeningFlow.next.Goals as goal

pub returns-clause-again : goal.returns-clause-again
unfolding opening_standing
returns-clause-again c =
    let P : Part → Part → Type 0 = λ given before. IfSome (next_of (parted given)) (λ call. next_of (parted before) ≡ Some call) in
    let before : c.take-part.result ≡ c.args.self.now.part = cc in
    let given : c.in_ok-part.part ≡ c.replace-2.new.dest = cc in
    subst (λ (p : Part). P p c.args.self.now.part) given (subst (λ (p : Part). P c.in_ok-part.part p) before c.in_ok-part.ensures.again)

pub returns-clause-call : goal.returns-clause-call
unfolding opening_standing
returns-clause-call c = search rules

pub returns-clause-rest : goal.returns-clause-rest
unfolding opening_standing
returns-clause-rest c = search rules

pub returns-clause-left : goal.returns-clause-left
unfolding opening_left
returns-clause-left c = search rules
