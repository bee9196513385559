use Rattle.std.proofs.Common.{refl}
use Rattle.script_lang.proofs.Arguments.FileNames.{file_name_ok, file_name_err}
use Rattle.script_lang.proofs.names.file_name.Goals as goal

pub returns-in-Some : goal.returns-in-Some
returns-in-Some c = file_name_ok c.args.word.now c.in-Some.name (c.in-Some.ensures.rule.0 refl) c.in-Some.ensures.value

pub returns-in-None : goal.returns-in-None
returns-in-None c = file_name_err c.args.word.now (λ rule. let wrong = c.in-None.ensures.rule.1 rule in cc)
