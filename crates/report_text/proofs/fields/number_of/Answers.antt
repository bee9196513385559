use Rattle.std.proofs.Common.{arith, rules}
use Rattle.report_text.proofs.Numbers.{number_at-some, number_at-none}
use Rattle.report_text.proofs.fields.number_of.Goals as goal

pub returns-in_default : goal.returns-in_default
returns-in_default c = number_at-none c.args.word.now (λ n small is. let read = c.read_decimal.ensures.exact n small is in cc)

pub returns : goal.returns
returns c = number_at-some c.in-Some.number c.args.word.now (omega arith) (search rules)
