use Rattle.std.proofs.Common.{◌≡◌, ◌≤◌, ℕ, ap, sym, ◌∙◌, subst, arith, true, false}
use Rattle.std.specs.Prelude.{IfOk, OnOk}
use Rattle.actor_core.specs.declared.actor.State.TheVariants.{Working}
use Rattle.actor_core.specs.Progress.{Progress}
use Rattle.actor_core.specs.Handing.{handing_of, IsHandedOut}
use Rattle.actor_core.specs.Standings.{busy, doing_ready, progress_of, state_progress, calls_left, state_left}
use Rattle.actor_core.proofs.Carrying.{placed}
use Rattle.actor_core.proofs.Handings.{none_handed, not_ready}
use Rattle.actor_core.proofs.actor.Actor.shares.Goals as goal

pub returns-else-is_out-clause-handed : goal.returns-else-is_out-clause-handed
returns-else-is_out-clause-handed c =
    let was = c.args.self.now in
    let n = c.state_taken.new.self.number in
    let k = c.state_taken.new.self.kept in
    let s = c.state_taken.new.self.stop in
    let here : progress_of was ≡ busy n (doing_ready k s c.in-Working.doing) =
    placed was n k s (Working c.in-Working.doing false) (sym c.state_taken.ensures.state ∙ c.in-Working.is ∙ ap (Working c.in-Working.doing) c.if-is_out.false) (sym c.state_taken.ensures.kept) (sym c.state_taken.ensures.number) (sym c.state_taken.ensures.stop) in
    let P : Progress → Type 0 = λ p. IfOk c.hand_out.result (λ works. IsHandedOut p works (progress_of c.hand_out.new.self)) in
    subst P (sym here) c.hand_out.ensures.handed

pub returns-else-is_out-clause-left : goal.returns-else-is_out-clause-left
returns-else-is_out-clause-left c =
    let Q : ℕ → Type 0 = λ left. OnOk c.hand_out.result (calls_left c.hand_out.new.self ≤ left) in
    subst Q (sym (ap state_left (sym c.state_taken.ensures.state ∙ c.in-Working.is ∙ ap (Working c.in-Working.doing) c.if-is_out.false))) c.hand_out.ensures.left

pub returns-in_default-clause-handed : goal.returns-in_default-clause-handed
returns-in_default-clause-handed c =
    let was = c.args.self.now in
    none_handed (progress_of was) (progress_of c.set-in_default.new.self)
    (ap (λ state. handing_of (state_progress was.number was.kept was.stop state)) (sym c.state_taken.ensures.state)
    ∙ not_ready was.number was.kept was.stop c.state_taken.result (λ doing. c.in_default.not-Working doing false))
    (placed c.set-in_default.new.self was.number was.kept was.stop c.state_taken.result
    c.set-in_default.ensures.state (c.set-in_default.ensures.kept ∙ c.state_taken.ensures.kept) (c.set-in_default.ensures.number ∙ c.state_taken.ensures.number) (c.set-in_default.ensures.stop ∙ c.state_taken.ensures.stop)
    ∙ ap (λ state. state_progress was.number was.kept was.stop state) c.state_taken.ensures.state)

pub returns-in_default-clause-left : goal.returns-in_default-clause-left
returns-in_default-clause-left c =
    let same : calls_left c.set-in_default.new.self ≡ calls_left c.args.self.now = ap state_left (c.set-in_default.ensures.state ∙ c.state_taken.ensures.state) in omega (arith, same)

pub returns-then-is_out-clause-handed : goal.returns-then-is_out-clause-handed
returns-then-is_out-clause-handed c =
    let was = c.args.self.now in
    none_handed (progress_of was) (progress_of c.set.new.self)
    (ap (λ state. handing_of (state_progress was.number was.kept was.stop state)) (sym c.state_taken.ensures.state ∙ c.in-Working.is ∙ ap (Working c.in-Working.doing) c.if-is_out.true)
    ∙ not_ready was.number was.kept was.stop (Working c.in-Working.doing true) (λ doing is. cc))
    (placed c.set.new.self was.number was.kept was.stop (Working c.in-Working.doing c.in-Working.is_out)
    c.set.ensures.state (c.set.ensures.kept ∙ c.state_taken.ensures.kept) (c.set.ensures.number ∙ c.state_taken.ensures.number) (c.set.ensures.stop ∙ c.state_taken.ensures.stop)
    ∙ ap (λ state. state_progress was.number was.kept was.stop state) (sym c.in-Working.is ∙ c.state_taken.ensures.state))

pub returns-then-is_out-clause-left : goal.returns-then-is_out-clause-left
returns-then-is_out-clause-left c =
    let same : calls_left c.set.new.self ≡ calls_left c.args.self.now = ap state_left (c.set.ensures.state ∙ sym c.in-Working.is ∙ c.state_taken.ensures.state) in omega (arith, same)
