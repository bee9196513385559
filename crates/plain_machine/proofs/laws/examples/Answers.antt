use Rattle.plain_machine.proofs.Working.{far_said, hello_said, hole_said, no_bytes_said, rising_said, waiting_said, without_said}
use Rattle.plain_machine.proofs.Together.{flattened_said, late_clock_said, overlap_said, refreshed_said, tie_said, tie_turned_said}
use Rattle.plain_machine.proofs.Filling.{full_said}
use Rattle.plain_machine.proofs.laws.examples.Goals as goal

pub returns-clause-hello : goal.returns-clause-hello
returns-clause-hello c = hello_said

pub returns-clause-waiting : goal.returns-clause-waiting
returns-clause-waiting c = waiting_said

pub returns-clause-overlap : goal.returns-clause-overlap
returns-clause-overlap c = overlap_said

pub returns-clause-tie : goal.returns-clause-tie
returns-clause-tie c = tie_said

pub returns-clause-tie_turned : goal.returns-clause-tie_turned
returns-clause-tie_turned c = tie_turned_said

pub returns-clause-late_clock : goal.returns-clause-late_clock
returns-clause-late_clock c = late_clock_said

pub returns-clause-rising : goal.returns-clause-rising
returns-clause-rising c = rising_said

pub returns-clause-hole : goal.returns-clause-hole
returns-clause-hole c = hole_said

pub returns-clause-no_bytes : goal.returns-clause-no_bytes
returns-clause-no_bytes c = no_bytes_said

pub returns-clause-far : goal.returns-clause-far
returns-clause-far c = far_said

pub returns-clause-full : goal.returns-clause-full
returns-clause-full c = full_said

pub returns-clause-flattened : goal.returns-clause-flattened
returns-clause-flattened c = flattened_said

pub returns-clause-refreshed : goal.returns-clause-refreshed
returns-clause-refreshed c = refreshed_said

pub returns-clause-without : goal.returns-clause-without
returns-clause-without c = without_said
