use Rattle.report_text.proofs.Breaks.{breaks_nowhere}
use Rattle.report_text.proofs.laws.lines_break_nowhere.Goals as goal

pub returns : goal.returns
returns c = λ lines number fit h. breaks_nowhere lines number fit h
