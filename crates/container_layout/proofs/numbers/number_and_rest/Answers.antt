use Rattle.std.proofs.Common.{sym}
use Rattle.container_layout.proofs.Dots.{at_none, found_first, before_dot, no_dot}
use Rattle.container_layout.proofs.numbers.number_and_rest.Goals as goal

pub returns-in_err-dot-clause-none : goal.returns-in_err-dot-clause-none
returns-in_err-dot-clause-none c =
    at_none c.from_residual.result (λ n rest lt cut. no_dot c.args.text.now n rest (sym c.in_err-dot.ensures) lt cut)

pub returns-in_err-before-clause-none : goal.returns-in_err-before-clause-none
returns-in_err-before-clause-none c =
    at_none c.from_residual-in_err-before.result (λ n rest lt cut.
    c.in_err-before.ensures.none n (record { fits = lt; printed = before_dot c.args.text.now c.in_ok-dot.dot n rest (sym c.in_ok-dot.ensures) lt cut }))

pub returns-clause-found : goal.returns-clause-found
returns-clause-found c =
    found_first c.args.text.now c.in_ok-dot.dot c.in_ok-before.before (sym c.in_ok-dot.ensures) c.in_ok-before.ensures.found
