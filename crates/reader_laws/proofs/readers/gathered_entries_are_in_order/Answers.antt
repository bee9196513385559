use Rattle.reader_laws.proofs.Gathered.Logs.Readable.{gathered_follow}
use Rattle.reader_laws.proofs.readers.gathered_entries_are_in_order.Goals as goal

pub returns : goal.returns
returns c = gathered_follow
