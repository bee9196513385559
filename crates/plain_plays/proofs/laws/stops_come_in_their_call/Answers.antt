use Rattle.plain_plays.proofs.Stops.{stops_so}
use Rattle.plain_plays.proofs.laws.stops_come_in_their_call.Goals as goal

pub returns : goal.returns
returns c = stops_so
