use Rattle.std.proofs.Common.{ap, ◌∙◌}
use Rattle.mount_model.specs.FlowReplies.{Tries}
use Rattle.mount_model.specs.declared.reply.Reply.{Reply}
use Rattle.drain_read.specs.declared.held.Held.{Held}
use Rattle.drain_read.specs.Stages.{held_rest}
use Rattle.drain_copy.specs.Asking.{at_target}
use Rattle.drain_copy.specs.Draining.{if_held}
use Rattle.drain_copy.proofs.holding.after_look.Goals as goal

pub returns-clause-goes_on : goal.returns-clause-goes_on
returns-clause-goes_on c =
    c.hold_on.ensures.goes_on
    ∙ ap (λ (p : Tries Held). at_target p (if_held c.args.name)) (c.in_ok-turn.ensures.goes_on ∙ ap (λ (r : Reply). held_rest c.args.read r) c.look_reply.ensures)
