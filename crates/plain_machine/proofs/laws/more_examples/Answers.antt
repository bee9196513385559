use Rattle.plain_machine.proofs.Naming.{alive_said, attributes_said, buried_said, busy_said, held_said, ids_spent_said, renamed_said, stamps_spent_said, truncated_said}
use Rattle.plain_machine.proofs.laws.more_examples.Goals as goal

pub returns-clause-truncated : goal.returns-clause-truncated
returns-clause-truncated c = truncated_said

pub returns-clause-busy : goal.returns-clause-busy
returns-clause-busy c = busy_said

pub returns-clause-alive : goal.returns-clause-alive
returns-clause-alive c = alive_said

pub returns-clause-renamed : goal.returns-clause-renamed
returns-clause-renamed c = renamed_said

pub returns-clause-attributes : goal.returns-clause-attributes
returns-clause-attributes c = attributes_said

pub returns-clause-stamps_spent : goal.returns-clause-stamps_spent
returns-clause-stamps_spent c = stamps_spent_said

pub returns-clause-held : goal.returns-clause-held
returns-clause-held c = held_said

pub returns-clause-buried : goal.returns-clause-buried
returns-clause-buried c = buried_said

pub returns-clause-ids_spent : goal.returns-clause-ids_spent
returns-clause-ids_spent c = ids_spent_said
