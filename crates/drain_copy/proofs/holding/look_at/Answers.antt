use Rattle.std.proofs.Common.{ℕ, Option, ap, sym, ◌∙◌}
use Rattle.mount_model.specs.FlowReplies.{Tries}
use Rattle.drain_read.specs.declared.held.Held.{Held}
use Rattle.drain_copy.specs.Asking.{at_target}
use Rattle.drain_copy.specs.Draining.{if_held, reads_target}
use Rattle.drain_copy.proofs.holding.look_at.Goals as goal

pub returns-in_ok-turn-in-Some-clause-goes_on : goal.returns-in_ok-turn-in-Some-clause-goes_on
returns-in_ok-turn-in-Some-clause-goes_on c =
    c.hold_on.ensures.goes_on
    ∙ ap (λ (p : Tries Held). at_target p (if_held c.args.name)) c.in_ok-turn-in-Some.ensures.goes_on
    ∙ ap (λ (f : Option ℕ). reads_target c.args.name f) (sym c.in-Some.is)
