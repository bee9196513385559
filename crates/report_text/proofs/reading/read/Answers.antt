use Rattle.std.proofs.Common.{◌≡◌, ◌<◌, length, arith}
use Rattle.std.proofs.lemmas.Bool.Decides.{nat_tests}
use Rattle.report_text.proofs.Begins.{progress_step, breaks_only, all_read, both_same, never_bad, pair_of, seen}
use Rattle.report_text.proofs.reading.read.Goals as goal

pub loop-rest-preserved : goal.loop-rest-preserved
loop-rest-preserved c =
    let some : 0 < length c.loop-rest.rest.now = grind (arith, nat_tests) in
    rw (c.in_ok-push-in-Ok.ensures.ok) (progress_step c.args.bytes.now c.loop-rest.lines c.loop-rest.rest.now c.in-Ok.line c.in-Ok.others.now c.loop-rest.invariant some c.in-Ok.ensures.found.0 c.in-Ok.ensures.found.1
    (λ l o h is. both_same c.in-Ok.line c.in-Ok.others.now l o (c.in-Ok.ensures.only l o h is)))

pub returns-in-Err-Bad-clause-only : goal.returns-in-Err-Bad-clause-only
returns-in-Err-Bad-clause-only c =
    let some : 0 < length c.loop-rest.rest.now = grind (arith, nat_tests) in
    breaks_only c.args.bytes.now c.loop-rest.lines c.loop-rest.rest.now c.loop-rest.invariant some (λ l o h is. never_bad seen c.in-Err-Bad.field-0 (pair_of l o) c.in-Err-Bad.field-0-is (c.in-Err-Bad.ensures.only l o h is))

pub returns-clause-only : goal.returns-clause-only
returns-clause-only c =
    let none : length c.loop-rest.rest.now ≡ 0 = grind (arith, nat_tests) in
    all_read c.args.bytes.now c.loop-rest.lines c.loop-rest.rest.now c.loop-rest.invariant none
