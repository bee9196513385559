use Rattle.std.proofs.Common.{ap, ◌∙◌}
use Rattle.mount_model.specs.FlowReplies.{on_ok}
use Rattle.index_reader.specs.OpenStages.{open_standing}
use Rattle.mount_model.specs.Composed.{is_awaiting}
use Rattle.flatten_core.specs.Installing.{syncs_listed}
use Rattle.mount_model.proofs.Flows.Composing.{again_then, same_rest}
use Rattle.flatten_core.proofs.stages.give_scan.Goals as goal

pub returns-clause-rest : goal.returns-clause-rest
returns-clause-rest c = same_rest (on_ok (syncs_listed c.args.room c.args.flat c.args.covers c.args.bytes)) (open_standing c.in_ok-scan.scan) (open_standing c.args.scan) c.in_ok-scan.ensures.rest

pub returns-clause-again : goal.returns-clause-again
returns-clause-again c =
    again_then (on_ok (syncs_listed c.args.room c.args.flat c.args.covers c.args.bytes)) (open_standing c.in_ok-scan.scan) (open_standing c.args.scan)
    (ap is_awaiting c.in_ok-scan.ensures.rest ∙ c.requires) c.requires c.in_ok-scan.ensures.again
