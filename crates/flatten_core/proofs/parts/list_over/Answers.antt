use Rattle.std.proofs.Common.{◌≡◌, sym, ◌∙◌}
use Rattle.mount_model.specs.Standing.{ready}
use Rattle.mount_model.specs.Composed.{then_on}
use Rattle.mount_model.specs.FlowReplies.{on_ok}
use Rattle.index_reader.specs.OpenStages.{open_standing}
use Rattle.std.proofs.lemmas.Result.{IfOk-weaker}
use Rattle.mount_model.proofs.Flows.Composing.{leads_then}
use Rattle.flatten_core.specs.declared.parts.Part.{Part}
use Rattle.flatten_core.specs.Flattening.{gathers}
use Rattle.flatten_core.specs.Parts.{parted}
use Rattle.flatten_core.proofs.parts.list_over.Goals as goal

pub returns-clause-goes_on : goal.returns-clause-goes_on
returns-clause-goes_on c =
    IfOk-weaker c.after_listing.result
    (λ (part : Part). parted part ≡ ready (on_ok (gathers c.args.started) c.out.result))
    (λ (part : Part). parted part ≡ then_on (open_standing c.args.scan) (on_ok (gathers c.args.started)))
    (λ part h. h ∙ sym (leads_then (on_ok (gathers c.args.started)) (open_standing c.args.scan) c.out.result c.out.ensures.is))
    c.after_listing.ensures.goes_on
