use Rattle.std.proofs.Common.{◌≡◌, Option, ap, ◌∙◌}
use Rattle.std.specs.Prelude.{Result}
use Rattle.mount_model.specs.declared.stuck.Stuck.{Stuck}
use Rattle.mount_model.specs.Standing.{Standing, ready, replied, rest_of}
use Rattle.mount_model.specs.Composed.{calling, then_on}
use Rattle.mount_model.specs.declared.call.Call.{Call}
use Rattle.mount_model.specs.declared.reply.Reply.{Reply}
use Rattle.mount_model.specs.FlowReplies.{on_ok}
use Rattle.gather_flow.specs.declared.all_read.AllRead.{AllRead}
use Rattle.gather_flow.specs.Gathering.{gather_rest, gather_standing}
use Rattle.flatten_core.specs.declared.parts.Part.{Part}
use Rattle.flatten_core.specs.Flattening.{installs_gathered}
use Rattle.flatten_core.specs.Parts.{parted}
use Rattle.std.proofs.lemmas.Result.{IfOk-weaker}
use Rattle.mount_model.proofs.Flows.Composing.{fresh_so, reply_calling}
use Rattle.flatten_core.proofs.parts.after_call.Goals as goal

pub gather_on-requires : goal.gather_on-requires
gather_on-requires c = fresh_so (gather_standing c.in_ok-gathering.gathering) (replied (gather_rest c.args.gathering) c.args.reply) c.in_ok-gathering.ensures.goes_on

pub returns-clause-goes_on : goal.returns-clause-goes_on
returns-clause-goes_on c =
    IfOk-weaker c.gather_on.result
    (λ (part : Part). parted part ≡ then_on (gather_standing c.in_ok-gathering.gathering) (on_ok (installs_gathered c.args.started)))
    (λ (part : Part). (call : Option Call) → parted part ≡ ready (replied (rest_of (calling call (gather_rest c.args.gathering) (on_ok (installs_gathered c.args.started)))) c.args.reply))
    (λ part h call. h
    ∙ ap (λ (s : Standing Call Reply (Result AllRead Stuck)). then_on s (on_ok (installs_gathered c.args.started))) c.in_ok-gathering.ensures.goes_on
    ∙ ap ready (reply_calling (on_ok (installs_gathered c.args.started)) call (gather_rest c.args.gathering) c.args.reply c.requires))
    c.gather_on.ensures.goes_on
