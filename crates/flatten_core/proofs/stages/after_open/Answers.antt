use Rattle.std.proofs.Common.{ap, sym, ◌∙◌}
use Rattle.mount_model.specs.Program.{followed_by}
use Rattle.mount_model.specs.Standing.{ready}
use Rattle.mount_model.specs.FlowReplies.{on_ok}
use Rattle.index_reader.specs.OpenStages.{after_open}
use Rattle.flatten_core.specs.Installing.{syncs_listed}
use Rattle.flatten_core.proofs.stages.after_open.Goals as goal

pub returns-in-GoesOn-clause-goes_on : goal.returns-in-GoesOn-clause-goes_on
returns-in-GoesOn-clause-goes_on c =
    ap (λ p. ready (followed_by p (on_ok (syncs_listed c.args.room c.args.flat c.args.covers c.args.bytes)))) (sym (ap after_open c.in-GoesOn.is) ∙ c.in_ok-scan.ensures.goes_on)
