use Rattle.std.proofs.Common.{◌≡◌, true, ap, subst, sym, ◌∙◌}
use Rattle.std.proofs.lemmas.Result.{IfOk-weaker}
use Rattle.std.specs.Prelude.{IfOk, Result}
use Rattle.mount_model.specs.Program.{followed_by}
use Rattle.mount_model.specs.Standing.{ready, replied, rest_of}
use Rattle.mount_model.specs.Composed.{is_awaiting}
use Rattle.mount_model.specs.declared.stuck.Stuck.{Stuck}
use Rattle.mount_model.proofs.Flows.Composing.{reply_then}
use Rattle.mount_model.specs.FlowReplies.{Tries, on_ok}
use Rattle.index_reader.specs.declared.listing.Listing.{Listing}
use Rattle.index_reader.specs.OpenStages.{open_standing}
use Rattle.migrate_core.specs.declared.migrated.Migrated.{Migrated}
use Rattle.migrate_core.specs.declared.stage.Stage.{Stage}
use Rattle.migrate_core.specs.declared.stage.Stage.TheVariants.{Scanning}
use Rattle.migrate_core.specs.Migrating.{migrates_listed}
use Rattle.migrate_core.specs.Stages.{IsUnderway, migrating}
use Rattle.migrate_core.proofs.stage.Stage.after.Goals as goal

pub returns-in-Scanning-clause-goes_on : goal.returns-in-Scanning-clause-goes_on
returns-in-Scanning-clause-goes_on c =
    let P : Stage → Type 0 = λ s. IsUnderway s → IfOk c.after_scan.result (λ (stage : Stage). migrating stage ≡ ready (replied (rest_of (migrating s)) c.args.reply)) in
    let k : Result Listing Stuck → Tries Migrated = on_ok (migrates_listed c.in-Scanning.room c.in-Scanning.metas) in
    subst P (sym c.in-Scanning.is)
    (λ (under : is_awaiting (rest_of (open_standing c.in-Scanning.scan)) ≡ true).
    IfOk-weaker c.after_scan.result
    (λ (stage : Stage). migrating stage ≡ ready (followed_by (replied (rest_of (open_standing c.in-Scanning.scan)) c.args.reply) k))
    (λ (stage : Stage). migrating stage ≡ ready (replied (rest_of (migrating (Scanning c.in-Scanning.room c.in-Scanning.scan c.in-Scanning.metas))) c.args.reply))
    (λ stage h. h ∙ ap ready (reply_then k (open_standing c.in-Scanning.scan) c.args.reply under))
    c.after_scan.ensures.goes_on)
    c.requires.underway
