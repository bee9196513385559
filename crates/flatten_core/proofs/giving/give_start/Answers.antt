use Rattle.std.proofs.Common.{sym, ◌∙◌}
use Rattle.mount_model.specs.Standing.{ready}
use Rattle.mount_model.specs.FlowReplies.{on_ok}
use Rattle.flatten_core.specs.Flattening.{lists}
use Rattle.flatten_core.specs.StartStages.{starting}
use Rattle.mount_model.proofs.Flows.Composing.{next_then}
use Rattle.flatten_core.proofs.giving.give_start.Goals as goal

pub returns-clause-call : goal.returns-clause-call
returns-clause-call c = c.call-asked.ensures.is ∙ sym (next_then (on_ok lists) (ready (starting c.args.stage)) c.requires)
