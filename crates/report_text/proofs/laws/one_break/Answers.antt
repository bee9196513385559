use Rattle.report_text.proofs.Breaks.{one_break}
use Rattle.report_text.proofs.laws.one_break.Goals as goal

pub returns : goal.returns
returns c = λ bytes a b h k. one_break bytes a b h k
