use Rattle.std.proofs.Common.{rules, ℕ, sym, subst, ◌∙◌}
use Rattle.thread_runs.specs.Collecting.{lines_in, HasLine, TakesOne}
use Rattle.thread_runs.proofs.WrittenOrder.{next_line, next_taken, long_one}
use Rattle.thread_runs.proofs.collecting.take_lines.Goals as goal

pub take_line-requires-clause-some : goal.take_line-requires-clause-some
take_line-requires-clause-some c = subst (λ (n : ℕ). HasLine (lines_in c.loop-statement.all) n) (sym c.actor.ensures)
    (next_line c.args.statements.now c.loop-statement.statement-index c.statement-item.result c.args.lines.now c.loop-statement.lines c.args.all.now c.loop-statement.all c.loop-statement-test.true c.statement-item.is c.requires.enough c.loop-statement.invariant.1 (search rules))

pub loop-statement-preserved : goal.loop-statement-preserved
loop-statement-preserved c =
    let taken = subst (λ (n : ℕ). TakesOne n c.loop-statement.lines (lines_in c.loop-statement.all) c.take_line.new.lines (lines_in c.take_line.new.all)) c.actor.ensures c.in_ok-take_line.ensures in (
      long_one c.statement-item.result.actor c.loop-statement.lines c.take_line.new.lines c.loop-statement.all c.take_line.new.all taken ∙ c.loop-statement.invariant.0,
      next_taken c.args.statements.now c.loop-statement.statement-index c.statement-item.result c.args.lines.now c.loop-statement.lines c.take_line.new.lines c.args.all.now c.loop-statement.all c.take_line.new.all c.loop-statement-test.true c.statement-item.is
          c.loop-statement.invariant.1 taken,
    )
