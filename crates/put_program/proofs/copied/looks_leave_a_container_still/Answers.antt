use Rattle.put_program.proofs.Copyings.Readers.{looks_still}
use Rattle.put_program.proofs.copied.looks_leave_a_container_still.Goals as goal

pub returns : goal.returns
returns c = looks_still
