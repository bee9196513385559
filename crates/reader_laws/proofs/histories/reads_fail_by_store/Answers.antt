use Rattle.reader_laws.proofs.Gathered.OpenReaders.Failing.{read_ends}
use Rattle.reader_laws.proofs.histories.reads_fail_by_store.Goals as goal

pub returns : goal.returns
returns c = λ moment caller room path at len bytes reply after s other there f. read_ends moment s caller room path at len bytes reply after other there f
