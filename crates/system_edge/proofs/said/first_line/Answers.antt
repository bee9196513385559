use Rattle.system_edge.proofs.Remembering.{line_ends, line_goes_on}
use Rattle.system_edge.proofs.said.first_line.Goals as goal

pub returns-in-Some-clause-line : goal.returns-in-Some-clause-line
returns-in-Some-clause-line c = line_ends c.args.bytes.now c.in-Some.place c.in-Some.ensures

pub returns-in-None-clause-none : goal.returns-in-None-clause-none
returns-in-None-clause-none c = line_goes_on c.args.bytes.now c.in-None.ensures
