use Rattle.packing_laws.proofs.SmallFiles.Fronts.{answers_or_outranked}
use Rattle.packing_laws.proofs.told.a_unit_is_answered_or_outranked.Goals as goal

pub returns : goal.returns
returns c = answers_or_outranked
