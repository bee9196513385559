use Rattle.std.proofs.Common.{◌∙◌, ap}
use Rattle.std.proofs.lemmas.Result.{IfOk-weaker}
use Rattle.clap.specs.Words.{app_of}
use Rattle.command_line.specs.Parser.{◌or◌}
use Rattle.command_line.proofs.parser.and_one.Goals as goal

pub returns : goal.returns
returns c =
    IfOk-weaker c.subcommand.result _ _ (λ r adds. adds.shape c.in_ok-with_one.ensures.local ∙ ap (λ sub. app_of c.args.command or sub) c.in_ok-with_one.ensures.shape) c.subcommand.ensures
