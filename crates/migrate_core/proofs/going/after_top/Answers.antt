use Rattle.std.proofs.Common.{ap, ◌∙◌}
use Rattle.mount_model.specs.Standing.{ready, replied, rest_of}
use Rattle.migrate_core.proofs.TopLemmas.{top_shown}
use Rattle.migrate_core.proofs.going.after_top.Goals as goal

pub returns-clause-goes_on : goal.returns-clause-goes_on
returns-clause-goes_on c =
    c.shown.ensures.goes_on
    ∙ ap ready (top_shown c.args.room c.in_ok-after.after c.args.reply c.in_ok-after.ensures.order
    (c.in_ok-after.ensures.goes_on ∙ ap (λ s. replied (rest_of s) c.args.reply) c.top-scan.ensures.is))
