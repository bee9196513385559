use Rattle.std.proofs.Common.{◌≡◌, subst}
use Rattle.script_lang.specs.Drafts.{script_in}
use Rattle.script_lang.specs.Ranges.{FitsScript}
use Rattle.script_lang.proofs.Scripts.Keeping.{script_fits}
use Rattle.script_lang.proofs.draft.Draft.finish.Goals as goal

pub returns-clause-fits : goal.returns-clause-fits
returns-clause-fits c =
    let same : script_in c.args.self ≡ record { actors = c.in_ok-into_list.field-0; phases = c.push.new.self } = cc (c.in_ok-push.ensures.ok, c.in_ok-into_list.ensures) in
    subst FitsScript same (script_fits c.args.self c.requires)
