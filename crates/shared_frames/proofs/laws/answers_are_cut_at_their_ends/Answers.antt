use Rattle.shared_frames.proofs.Cutting.{front, whole}
use Rattle.shared_frames.proofs.laws.answers_are_cut_at_their_ends.Goals as goal

pub returns-clause-front : goal.returns-clause-front
returns-clause-front c = λ answer n fits. front answer n

pub returns-clause-whole : goal.returns-clause-whole
returns-clause-whole c = λ answer fits. whole answer
