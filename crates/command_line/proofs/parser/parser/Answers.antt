use Rattle.std.proofs.Common.{◌∙◌, ap}
use Rattle.std.proofs.lemmas.Result.{IfOk-weaker}
use Rattle.command_line.specs.Parser.{parser, with_changes, with_files, with_scripts, with_units}
use Rattle.command_line.proofs.parser.parser.Goals as goal

pub returns : goal.returns
unfolding parser
returns c =
    let scripts = c.in_ok-command.ensures ∙ ap with_scripts c.program.ensures in
    let files = c.in_ok-command-2.ensures ∙ ap with_files scripts in
    let changes = c.in_ok-command-3.ensures ∙ ap with_changes files in
    IfOk-weaker c.with_units.result _ _ (λ r is. is ∙ ap with_units changes) c.with_units.ensures
