use Rattle.std.proofs.Common.{rules, arith, ◌<◌, length}
use Rattle.std.proofs.lemmas.Grind.{common_steps}
use Rattle.std.proofs.lemmas.Bool.Decides.{nat_tests}
use Rattle.report_text.proofs.Joined.{pieces_behind}
use Rattle.report_text.proofs.outcomes.map.Goals as goal

pub returns : goal.returns
returns c =
    let some : 0 < length c.args.pieces.now = grind (arith, nat_tests) in
    let text = pieces_behind c.args.pieces.now some in
    search (rules, common_steps, text)
