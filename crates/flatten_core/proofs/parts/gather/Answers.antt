use Rattle.std.proofs.Common.{◌≡◌, [], ap, ◌∙◌}
use Rattle.std.specs.Prelude.{Result}
use Rattle.mount_model.specs.declared.stuck.Stuck.{Stuck}
use Rattle.mount_model.specs.Program.{followed_by}
use Rattle.mount_model.specs.Standing.{Standing, ready}
use Rattle.mount_model.specs.Composed.{then_on}
use Rattle.mount_model.specs.declared.call.Call.{Call}
use Rattle.mount_model.specs.declared.reply.Reply.{Reply}
use Rattle.mount_model.specs.FlowReplies.{on_ok}
use Rattle.index_reader.specs.declared.listing.Listing.{Listing}
use Rattle.gather_flow.specs.declared.all_read.AllRead.{AllRead}
use Rattle.gather_flow.specs.Gathering.{gather_standing, shares_from}
use Rattle.flatten_core.specs.declared.parts.Part.{Part}
use Rattle.flatten_core.specs.Flattening.{gathers, installs_gathered}
use Rattle.flatten_core.specs.Parts.{parted}
use Rattle.std.proofs.lemmas.Result.{IfOk-weaker}
use Rattle.mount_model.proofs.Flows.Composing.{fresh_so}
use Rattle.flatten_core.proofs.parts.gather.Goals as goal

pub gather_on-requires : goal.gather_on-requires
gather_on-requires c = fresh_so (gather_standing c.in_ok-gathering.gathering) (shares_from 1 c.of.result 0 []) c.in_ok-gathering.ensures.standing

pub returns-clause-goes_on : goal.returns-clause-goes_on
returns-clause-goes_on c =
    IfOk-weaker c.gather_on.result
    (λ (part : Part). parted part ≡ then_on (gather_standing c.in_ok-gathering.gathering) (on_ok (installs_gathered c.args.started)))
    (λ (part : Part). parted part ≡ ready (gathers c.args.started c.args.listing))
    (λ part h. h
    ∙ ap (λ (s : Standing Call Reply (Result AllRead Stuck)). then_on s (on_ok (installs_gathered c.args.started))) c.in_ok-gathering.ensures.standing
    ∙ ap (λ (l : Listing). ready (followed_by (shares_from 1 l 0 []) (on_ok (installs_gathered c.args.started)))) c.of.ensures)
    c.gather_on.ensures.goes_on
