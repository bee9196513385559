use Rattle.std.proofs.Common.{◌∙◌, ap, codes}
use Rattle.std.proofs.lemmas.Result.{IfOk-weaker}
use Rattle.clap.specs.Words.{App}
use Rattle.command_line.specs.Parser.{◌or◌, with_one}
use Rattle.command_line.proofs.parser.with_files.Goals as goal

pub returns : goal.returns
returns c =
    let four = c.in_ok-command-2.ensures ∙ ap (λ (all : App). all or with_one (codes "map") or with_one (codes "flatten")) c.in_ok-command.ensures in
    let six = c.in_ok-command-3.ensures ∙ ap (λ (all : App). all or with_one (codes "recover") or with_one (codes "migrate")) four in
    IfOk-weaker c.and_one.result _ _ (λ r is. is ∙ ap (λ (all : App). all or with_one (codes "names")) six) c.and_one.ensures
