use Rattle.std.proofs.Common.{◌∙◌, ap, ap₂}
use Rattle.std.proofs.lemmas.Result.{IfOk-weaker}
use Rattle.clap.specs.Words.{App, app_of}
use Rattle.command_line.specs.Parser.{◌or◌}
use Rattle.command_line.proofs.parser.with_units.Goals as goal

pub returns : goal.returns
returns c =
    let one = c.in_ok-subcommand.ensures.shape c.in_ok-with_two.ensures.local ∙ ap (λ (sub : App). app_of c.args.command or sub) c.in_ok-with_two.ensures.shape in
    IfOk-weaker c.subcommand-2.result _ _ (λ r adds. adds.shape c.in_ok-with_two-2.ensures.local ∙ ap₂ ◌or◌ one c.in_ok-with_two-2.ensures.shape) c.subcommand-2.ensures
