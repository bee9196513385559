use Rattle.std.proofs.Common.{ap, sym, ◌∙◌}
use Rattle.std.specs.Prelude.{Result}
use Rattle.mount_model.specs.declared.stuck.Stuck.{Stuck}
use Rattle.mount_model.specs.Standing.{Standing, ready, rest_of}
use Rattle.mount_model.specs.Composed.{is_awaiting, then_on}
use Rattle.mount_model.specs.declared.call.Call.{Call}
use Rattle.mount_model.specs.declared.reply.Reply.{Reply}
use Rattle.mount_model.specs.FlowReplies.{on_ok}
use Rattle.index_reader.specs.declared.listing.Listing.{Listing}
use Rattle.flatten_core.specs.declared.starting.Started.{Started}
use Rattle.flatten_core.specs.Flattening.{gathers, lists}
use Rattle.flatten_core.proofs.parts.list_begun.Goals as goal

pub returns-in-Ok-clause-goes_on : goal.returns-in-Ok-clause-goes_on
returns-in-Ok-clause-goes_on c =
    ap (λ (s : Standing Call Reply (Result Listing Stuck)). then_on s (on_ok (gathers c.in-Ok.started))) c.at.ensures.starts
    ∙ ap (λ (o : Result Started Stuck). ready (on_ok lists o)) (sym c.in-Ok.is)

pub returns-in-Ok-clause-underway : goal.returns-in-Ok-clause-underway
returns-in-Ok-clause-underway c = ap (λ (s : Standing Call Reply (Result Listing Stuck)). is_awaiting (rest_of s)) c.at.ensures.starts
