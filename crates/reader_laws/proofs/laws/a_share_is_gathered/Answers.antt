use Rattle.reader_laws.proofs.OpenReaders.Openings.{share_gathered}
use Rattle.reader_laws.proofs.laws.a_share_is_gathered.Goals as goal

pub returns : goal.returns
returns c = share_gathered
