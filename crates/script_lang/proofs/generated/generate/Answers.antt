use Rattle.std.proofs.Common.{◌≡◌, subst, sym}
use Rattle.script_lang.specs.declared.script.Script.{Script}
use Rattle.script_lang.specs.Generated.{generated}
use Rattle.script_lang.specs.Ranges.{FitsScript}
use Rattle.script_lang.proofs.Scripts.GeneratedLemmas.{generated_fits}
use Rattle.script_lang.proofs.generated.generate.Goals as goal

pub returns-clause-fits : goal.returns-clause-fits
returns-clause-fits c =
    let made : Script = record { actors = c.in_ok-writers.field-0; phases = c.in_ok-phases.field-0 } in
    let same : generated c.args.n ≡ made = λ i. record { actors = sym c.in_ok-writers.ensures i; phases = sym c.in_ok-phases.ensures i } in
    subst FitsScript same (generated_fits c.args.n c.requires.some c.requires.few)
