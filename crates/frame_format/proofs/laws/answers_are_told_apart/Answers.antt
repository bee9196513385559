use Rattle.frame_format.proofs.Apart.{one_answer}
use Rattle.frame_format.proofs.laws.answers_are_told_apart.Goals as goal

pub returns : goal.returns
returns c = one_answer
