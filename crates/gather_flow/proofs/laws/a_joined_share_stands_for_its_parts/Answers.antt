use Rattle.gather_flow.proofs.Joining.{joined_reader, joined_told}
use Rattle.gather_flow.proofs.laws.a_joined_share_stands_for_its_parts.Goals as goal

pub returns : goal.returns
returns c = record { reader = joined_reader; told = joined_told }
