use Rattle.writer_laws.proofs.Closes.{close_ends}
use Rattle.writer_laws.proofs.Machines.{sync_ends, write_ends}
use Rattle.writer_laws.proofs.laws.a_handle_tells_of_its_buffer.Goals as goal

pub returns-clause-write : goal.returns-clause-write
returns-clause-write c = write_ends

pub returns-clause-sync : goal.returns-clause-sync
returns-clause-sync c = sync_ends

pub returns-clause-close : goal.returns-clause-close
returns-clause-close c = close_ends
