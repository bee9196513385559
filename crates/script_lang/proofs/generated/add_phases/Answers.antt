use Rattle.script_lang.proofs.Scripts.GeneratedLemmas.{all_phases}
use Rattle.script_lang.proofs.generated.add_phases.Goals as goal

pub returns : goal.returns
returns c =
    all_phases c.args.n c.from-writers.result c.from-blocks.result c.in_ok-opens.field-0 c.in_ok-writes.field-0 c.in_ok-closes.field-0 c.in_ok-checks.field-0
    c.args.phases.now c.push.new.self c.push-2.new.self c.push-3.new.self c.push-4.new.self c.phase.result c.phase-2.result c.phase-3.result c.phase-4.result
    c.from-writers.ensures c.from-blocks.ensures c.in_ok-opens.ensures c.in_ok-writes.ensures c.in_ok-closes.ensures c.in_ok-checks.ensures
    c.phase.ensures c.phase-2.ensures c.phase-3.ensures c.phase-4.ensures
    c.requires.none c.in_ok-push.ensures.ok c.in_ok-push-2.ensures.ok c.in_ok-push-3.ensures.ok c.in_ok-push-4.ensures.ok
