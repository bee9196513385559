use Rattle.std.proofs.Common.{◌≡◌, sym, ◌∙◌}
use Rattle.mount_model.specs.Standing.{ready}
use Rattle.mount_model.specs.Composed.{then_on}
use Rattle.index_reader.specs.OpenStages.{open_standing}
use Rattle.std.proofs.lemmas.Result.{IfOk-weaker}
use Rattle.mount_model.proofs.Flows.Composing.{leads_then}
use Rattle.refresh_index.specs.declared.parts.Part.{Part}
use Rattle.refresh_index.specs.Refreshing.{if_listed}
use Rattle.refresh_index.specs.Parts.{parted}
use Rattle.refresh_index.proofs.parts.list_over.Goals as goal

pub returns-clause-goes_on : goal.returns-clause-goes_on
returns-clause-goes_on c =
    IfOk-weaker c.after_listing.result
    (λ (part : Part). parted part ≡ ready (if_listed c.args.held c.out.result))
    (λ (part : Part). parted part ≡ then_on (open_standing c.args.scan) (if_listed c.args.held))
    (λ part h. h ∙ sym (leads_then (if_listed c.args.held) (open_standing c.args.scan) c.out.result c.out.ensures.is))
    c.after_listing.ensures.goes_on
