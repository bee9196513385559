use Rattle.std.proofs.Common.{arith, rules}
use Rattle.report_text.proofs.Numbers.{wide_at-some, wide_at-none}
use Rattle.report_text.proofs.fields.wide_of.Goals as goal

pub returns-in_default : goal.returns-in_default
returns-in_default c = wide_at-none c.args.word.now (λ n small is. let read = c.wide_number.ensures.exact n small is in cc)

pub returns : goal.returns
returns c = wide_at-some c.in-Some.number c.args.word.now (omega arith) (search rules)
