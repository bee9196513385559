use Rattle.put_program.proofs.Copyings.Elsewhere.{begun_still, copied_still}
use Rattle.put_program.proofs.copied.a_copying_leaves_other_containers_still.Goals as goal

pub returns-clause-copied : goal.returns-clause-copied
returns-clause-copied c = copied_still

pub returns-clause-broken_off : goal.returns-clause-broken_off
returns-clause-broken_off c = begun_still
