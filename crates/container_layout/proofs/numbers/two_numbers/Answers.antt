use Rattle.std.proofs.Common.{[]}
use Rattle.container_layout.proofs.Dots.{at_none, only_number, numbers_behind}
use Rattle.container_layout.proofs.numbers.two_numbers.Goals as goal

pub returns-in_err-second-clause-none : goal.returns-in_err-second-clause-none
returns-in_err-second-clause-none c =
    let cut = c.in_ok-first.ensures.found in
    at_none c.from_residual-in_err-second.result (λ a b are.
    c.in_err-second.ensures.none b (only_number c.in_ok-first.rest.now b
    (numbers_behind c.args.text.now c.in_ok-first.rest.now c.in_ok-first.first cut.0 cut.1 a b [] are)))
