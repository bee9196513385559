use Rattle.program_ends.proofs.Mounts.MountLemmas.{why_fails, has_next}
use Rattle.program_ends.proofs.laws.marks_are_why.Goals as goal

pub returns-clause-broke_off : goal.returns-clause-broke_off
returns-clause-broke_off c = λ before after trouble tree failed told. why_fails before after trouble failed tree told

pub returns-clause-mounted : goal.returns-clause-mounted
returns-clause-mounted c = λ serial times before start tree mounted told. has_next serial times before start mounted tree told
