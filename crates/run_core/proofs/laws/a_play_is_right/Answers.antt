use Rattle.run_core.proofs.Lines.Rightness.{play_right}
use Rattle.run_core.proofs.laws.a_play_is_right.Goals as goal

pub returns : goal.returns
returns c = λ script start lines end play. play_right script start lines end play
