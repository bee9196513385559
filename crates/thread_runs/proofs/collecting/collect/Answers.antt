use Rattle.std.proofs.Common.{List, subst, sym, ◌∙◌, arith}
use Rattle.script_lang.specs.declared.script.Numbered.{Numbered}
use Rattle.thread_runs.specs.Collecting.{lines_in, Suffice, TakesAll}
use Rattle.thread_runs.proofs.WrittenOrder.{next_phase, phase_taken, long_all, whole_taken}
use Rattle.thread_runs.proofs.collecting.collect.Goals as goal

pub take_lines-requires-clause-enough : goal.take_lines-requires-clause-enough
take_lines-requires-clause-enough c =
    subst (λ (z : List Numbered). Suffice z (lines_in c.loop-phase.all)) (sym c.as_slice-statements.ensures)
    (next_phase c.args.phases.now c.loop-phase.phase-index c.phase-item.result c.loop-phase.lines c.args.all.now c.loop-phase.all c.loop-phase-test.true c.phase-item.is c.requires.enough c.loop-phase.invariant.1)

pub loop-phase-preserved : goal.loop-phase-preserved
loop-phase-preserved c =
    let here = subst (λ (z : List Numbered). TakesAll z c.loop-phase.lines (lines_in c.loop-phase.all) c.take_lines.new.lines (lines_in c.take_lines.new.all)) c.as_slice-statements.ensures c.in_ok-take_lines.ensures in (
      long_all c.phase-item.result.statements c.loop-phase.lines c.take_lines.new.lines c.loop-phase.all c.take_lines.new.all here ∙ c.loop-phase.invariant.0,
      phase_taken c.args.phases.now c.loop-phase.phase-index c.phase-item.result c.loop-phase.lines c.take_lines.new.lines c.args.all.now c.loop-phase.all c.take_lines.new.all c.loop-phase-test.true c.phase-item.is c.loop-phase.invariant.1 here,
    )

pub returns : goal.returns
returns c = whole_taken c.args.phases.now c.loop-phase.phase-index c.loop-phase.lines (lines_in c.args.all.now) (lines_in c.loop-phase.all) (omega arith) c.requires.enough c.loop-phase.invariant.1
