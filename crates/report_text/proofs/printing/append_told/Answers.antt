use Rattle.std.proofs.Common.{rules}
use Rattle.std.proofs.lemmas.Grind.{common_steps}
use Rattle.report_text.proofs.Joined.{body_of_line_words}
use Rattle.report_text.proofs.printing.append_told.Goals as goal

pub returns : goal.returns
returns c =
    let text = body_of_line_words (record { number = c.args.number; outcome = c.args.told.now }) in
    search (rules, common_steps, text)
