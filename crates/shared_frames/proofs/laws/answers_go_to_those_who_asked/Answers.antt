use Rattle.std.proofs.Common.{List, ℕ, sym, ap, ◌∙◌, ◌++◌}
use Rattle.shared_frames.proofs.Order.{in_order}
use Rattle.shared_frames.proofs.laws.answers_go_to_those_who_asked.Goals as goal

pub returns : goal.returns
returns c = λ start end asked told none runs. ap (λ (z : List ℕ). z ++ asked) (sym none) ∙ in_order start end asked told runs
