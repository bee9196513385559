use Rattle.std.proofs.Common.{◌∙◌, ap, ap₂, codes}
use Rattle.std.proofs.lemmas.Result.{IfOk-weaker}
use Rattle.clap.specs.Words.{App, app_of}
use Rattle.command_line.specs.Parser.{◌or◌, with_one}
use Rattle.command_line.proofs.parser.with_scripts.Goals as goal

pub returns : goal.returns
returns c =
    let one = c.in_ok-subcommand.ensures.shape c.new.ensures.local ∙ ap (λ (sub : App). app_of c.args.command or sub) c.new.ensures.app in
    let two = c.in_ok-subcommand-2.ensures.shape c.new-2.ensures.local ∙ ap₂ ◌or◌ one c.new-2.ensures.app in
    let three = c.in_ok-command.ensures.shape c.new-3.ensures.local ∙ ap₂ ◌or◌ two c.new-3.ensures.app in
    IfOk-weaker c.and_one.result _ _ (λ r is. is ∙ ap (λ (all : App). all or with_one (codes "gen")) three) c.and_one.ensures
