use Rattle.std.proofs.Common.{◌≡◌, Option, ap, sym, ◌∙◌}
use Rattle.mount_model.specs.Standing.{ready, replied, rest_of}
use Rattle.mount_model.specs.Composed.{calling}
use Rattle.mount_model.specs.declared.call.Call.{Call}
use Rattle.mount_model.specs.FlowReplies.{on_ok}
use Rattle.gather_flow.specs.Gathering.{gather_rest}
use Rattle.opening_flow.specs.declared.parts.Part.{Part}
use Rattle.opening_flow.specs.Opening.{reads_as}
use Rattle.opening_flow.specs.Parts.{parted}
use Rattle.std.proofs.lemmas.Result.{IfOk-weaker}
use Rattle.opening_flow.proofs.parts.Part.after.Goals as goal

pub returns-in-Gathering-clause-goes_on : goal.returns-in-Gathering-clause-goes_on
returns-in-Gathering-clause-goes_on c =
    IfOk-weaker c.after_call.result
    (λ (part : Part). (call : Option Call) → parted part ≡ ready (replied (rest_of (calling call (gather_rest c.in-Gathering.gathering) (on_ok reads_as))) c.args.reply))
    (λ (part : Part). parted part ≡ ready (replied (rest_of (parted c.args.self)) c.args.reply))
    (λ part h. h _ ∙ ap (λ (p : Part). ready (replied (rest_of (parted p)) c.args.reply)) (sym c.in-Gathering.is))
    c.after_call.ensures.goes_on
