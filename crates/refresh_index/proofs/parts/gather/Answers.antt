use Rattle.std.proofs.Common.{◌≡◌, [], ap, ◌∙◌}
use Rattle.std.specs.Prelude.{Result}
use Rattle.std.proofs.lemmas.Result.{IfOk-weaker}
use Rattle.mount_model.specs.declared.stuck.Stuck.{Stuck}
use Rattle.mount_model.specs.Standing.{Standing, ready}
use Rattle.mount_model.specs.Composed.{then_on}
use Rattle.mount_model.proofs.Flows.Composing.{fresh_so}
use Rattle.mount_model.specs.declared.call.Call.{Call}
use Rattle.mount_model.specs.declared.reply.Reply.{Reply}
use Rattle.gather_flow.specs.declared.all_read.AllRead.{AllRead}
use Rattle.gather_flow.specs.Gathering.{gather_standing, shares_from}
use Rattle.refresh_index.specs.declared.parts.Part.{Part}
use Rattle.refresh_index.specs.Parts.{parted}
use Rattle.refresh_index.specs.Refreshing.{behind, if_gathered, reads_on}
use Rattle.refresh_index.proofs.parts.gather.Goals as goal

pub gather_on-requires : goal.gather_on-requires
gather_on-requires c = fresh_so (gather_standing c.in-Ok.gathering) (shares_from 1 (behind c.args.held c.args.listing.now) 0 []) c.in-Ok.ensures.standing

pub returns-in-Ok-clause-goes_on : goal.returns-in-Ok-clause-goes_on
returns-in-Ok-clause-goes_on c =
    IfOk-weaker c.gather_on.result
    (λ (part : Part). parted part ≡ then_on (gather_standing c.in-Ok.gathering) (if_gathered c.args.held))
    (λ (part : Part). parted part ≡ ready (reads_on c.args.held c.args.listing.now))
    (λ part h. h ∙ ap (λ (s : Standing Call Reply (Result AllRead Stuck)). then_on s (if_gathered c.args.held)) c.in-Ok.ensures.standing)
    c.gather_on.ensures.goes_on
