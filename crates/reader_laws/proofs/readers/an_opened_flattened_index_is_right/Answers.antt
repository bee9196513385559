use Rattle.reader_laws.proofs.Gathered.OpenReaders.Opening.{opened_flat, shared_flat}
use Rattle.reader_laws.proofs.readers.an_opened_flattened_index_is_right.Goals as goal

pub returns-clause-alone : goal.returns-clause-alone
returns-clause-alone c = opened_flat

pub returns-clause-shared : goal.returns-clause-shared
returns-clause-shared c = shared_flat
