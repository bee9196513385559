use Rattle.std.proofs.Common.{arith}
use Rattle.test_lines.proofs.Patterns.{filled_plain, filled_next, filled_no_more}
use Rattle.test_lines.proofs.Grown.{grown_twice}
use Rattle.test_lines.proofs.line.Line.+fill.Goals as goal

pub returns-in_default : goal.returns-in_default
returns-in_default t c =
    let none = c.in_default.ensures.byte (omega arith) (λ w o found. found) in
    rw (filled_plain c.args.pattern.now c.args.numbers.now none) c.push.ensures

pub returns-in_default-numbers : goal.returns-in_default-numbers
returns-in_default-numbers t c =
    let cut = c.in-Some.ensures.byte (omega arith) (λ w o found. found) in
    rw (filled_no_more c.args.pattern.now c.args.numbers.now c.in-Some.before.now c.in-Some.behind.now c.in_default-numbers.len_below cut.2 cut.0 cut.1)
    (grown_twice _ _ _ _ _ c.push-2.ensures c.fill.ensures)

pub returns-in-len1-up : goal.returns-in-len1-up
returns-in-len1-up t c =
    let cut = c.in-Some.ensures.byte (omega arith) (λ w o found. found) in
    rw (filled_next c.args.pattern.now c.args.numbers.now c.in-Some.before.now c.in-Some.behind.now c.format.result.now c.in-len1-up.len_at_least cut.2 cut.0 cut.1 c.format.ensures.text)
    (grown_twice _ _ _ _ _ c.push-2.ensures (grown_twice _ _ _ _ _ c.push-in-len1-up.ensures c.fill-in-len1-up.ensures))
