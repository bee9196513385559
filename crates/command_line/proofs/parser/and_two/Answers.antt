use Rattle.std.proofs.Common.{◌∙◌, ap}
use Rattle.std.proofs.lemmas.Result.{IfOk-weaker}
use Rattle.clap.specs.Words.{App}
use Rattle.command_line.specs.Parser.{◌or◌, with_one}
use Rattle.command_line.proofs.parser.and_two.Goals as goal

pub returns : goal.returns
returns c = IfOk-weaker c.and_one-2.result _ _ (λ r is. is ∙ ap (λ (all : App). all or with_one c.args.second.now) c.in_ok-command.ensures) c.and_one-2.ensures
