use Rattle.program_ends.proofs.Mounts.MarkLaws as law
use Rattle.program_ends.proofs.laws.marks_decide.Goals as goal

pub returns-clause-spent_or_next : goal.returns-clause-spent_or_next
returns-clause-spent_or_next c = law.spent_or_next

pub returns-clause-spent_or_damaged : goal.returns-clause-spent_or_damaged
returns-clause-spent_or_damaged c = law.spent_or_damaged

pub returns-clause-next_or_damaged : goal.returns-clause-next_or_damaged
returns-clause-next_or_damaged c = law.next_or_damaged

pub returns-clause-one_name : goal.returns-clause-one_name
returns-clause-one_name c = law.one_name
