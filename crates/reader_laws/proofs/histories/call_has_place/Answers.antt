use Rattle.reader_laws.proofs.Gathered.Moments.Placing.{place_of}
use Rattle.reader_laws.proofs.histories.call_has_place.Goals as goal

pub returns : goal.returns
returns c = place_of
