use Rattle.index_reader.proofs.Containers.OpenLemmas.{newest_read}
use Rattle.index_reader.proofs.opening.begins.Goals as goal

pub returns-in-Some-clause-goes_on : goal.returns-in-Some-clause-goes_on
returns-in-Some-clause-goes_on c = newest_read c.args.room c.in-Some.id c.args.newest c.new.result c.in-Some.is (c.new.ensures.starts c.args.room) c.new.ensures.id
