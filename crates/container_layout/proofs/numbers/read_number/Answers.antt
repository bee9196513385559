use Rattle.container_layout.proofs.Dots.{number_found}
use Rattle.container_layout.proofs.numbers.read_number.Goals as goal

pub returns-clause-only : goal.returns-clause-only
returns-clause-only c =
    number_found c.args.name.now c.number.result (rw c.bytes.ensures.value at c.number.ensures.found) (rw c.bytes.ensures.value at c.number.ensures.none)
