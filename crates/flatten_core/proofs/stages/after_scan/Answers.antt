use Rattle.std.proofs.Common.{◌≡◌, ap, ◌∙◌}
use Rattle.mount_model.specs.Program.{followed_by}
use Rattle.mount_model.specs.Standing.{ready, replied, rest_of}
use Rattle.mount_model.specs.FlowReplies.{on_ok}
use Rattle.index_reader.specs.OpenStages.{open_standing}
use Rattle.flatten_core.specs.Installing.{syncs_listed}
use Rattle.flatten_core.specs.Stages.{installing}
use Rattle.flatten_core.specs.declared.stages.Stage.{Stage}
use Rattle.flatten_core.specs.declared.stages.Stage.TheVariants.{Scanning}
use Rattle.std.proofs.lemmas.Result.{IfOk-weaker}
use Rattle.mount_model.proofs.Flows.Composing.{reply_then}
use Rattle.flatten_core.proofs.stages.after_scan.Goals as goal

pub returns-clause-goes_on : goal.returns-clause-goes_on
returns-clause-goes_on c =
    IfOk-weaker c.after_open.result
    (λ (stage : Stage). installing c.args.room c.args.flat stage ≡ ready (followed_by (replied (rest_of (open_standing c.args.scan)) c.args.reply) (on_ok (syncs_listed c.args.room c.args.flat c.args.covers c.args.bytes))))
    (λ (stage : Stage). installing c.args.room c.args.flat stage ≡ ready (replied (rest_of (installing c.args.room c.args.flat (Scanning c.args.scan c.args.covers c.args.bytes))) c.args.reply))
    (λ stage h. h ∙ ap ready (reply_then (on_ok (syncs_listed c.args.room c.args.flat c.args.covers c.args.bytes)) (open_standing c.args.scan) c.args.reply c.requires))
    c.after_open.ensures.goes_on
