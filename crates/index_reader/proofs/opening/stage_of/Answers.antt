use Rattle.index_reader.proofs.Containers.OpenLemmas.{flat_same}
use Rattle.index_reader.proofs.opening.stage_of.Goals as goal

pub returns-in-GoesOn-clause-goes_on : goal.returns-in-GoesOn-clause-goes_on
returns-in-GoesOn-clause-goes_on c = flat_same c.args.room c.args.id c.in-GoesOn.read c.args.after c.in-GoesOn.is c.requires
