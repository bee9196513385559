use Rattle.sharing_laws.proofs.Dealing.{dealt}
use Rattle.sharing_laws.proofs.laws.each_dropping_is_dealt_once.Goals as goal

pub returns : goal.returns
returns c = dealt
