use Rattle.std.proofs.Common.{◌||◌, ◌∙◌, ap₂}
use Rattle.std.proofs.lemmas.Result.{IfOk-weaker}
use Rattle.clap.specs.Words.{with_rule}
use Rattle.command_line.proofs.parser.with_two.Goals as goal

pub returns-clause-shape : goal.returns-clause-shape
returns-clause-shape c = IfOk-weaker c.arg.result _ _ (λ r adds. adds.shape c.operand.ensures.local ∙ ap₂ with_rule c.in_ok-with_one.ensures.shape c.operand.ensures.rule) c.arg.ensures

pub returns-clause-local : goal.returns-clause-local
returns-clause-local c = IfOk-weaker c.arg.result _ _ (λ r adds. adds.globals ∙ ap₂ ◌||◌ c.in_ok-with_one.ensures.local c.operand.ensures.local) c.arg.ensures
