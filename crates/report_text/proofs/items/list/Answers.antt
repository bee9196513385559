use Rattle.std.proofs.Common.{rules}
use Rattle.std.proofs.lemmas.Grind.{common_steps}
use Rattle.report_text.proofs.Joined.{list_text_cons}
use Rattle.report_text.proofs.items.list.Goals as goal

pub returns : goal.returns
returns g c =
    let text = list_text_cons g.T.Item.text c.in-Some.first.now c.in-Some.others.now in
    search (rules, common_steps, text)
