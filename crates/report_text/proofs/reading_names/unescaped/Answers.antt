use Rattle.std.proofs.lemmas.Result.{err_from_is_err_and}
use Rattle.report_text.specs.Reading.{name_at}
use Rattle.report_text.proofs.Loops.{byte_goes_on, byte_ends, name_done}
use Rattle.report_text.proofs.reading_names.unescaped.Goals as goal

pub returns-in_err-read : goal.returns-in_err-read
returns-in_err-read c =
    let p = err_from_is_err_and c.from_residual.result c.from_residual.ensures.1 in
    rw (p.1, p.2) (byte_ends c.in_err-read.field-0.0 c.loop-first.name.items c.loop-first.rest.now c.in-Some.first.now c.in-Some.others.now (name_at c.args.text.now) c.in-Some.ensures.cases.0 c.in_err-read.ensures.value c.loop-first.invariant)

pub loop-first-preserved : goal.loop-first-preserved
loop-first-preserved c =
    rw (c.in_ok-push.ensures.items) (byte_goes_on c.loop-first.name.items c.loop-first.rest.now c.in-Some.first.now c.in-Some.others.now c.in_ok-read.read c.in_ok-read.behind.now (name_at c.args.text.now) c.in-Some.ensures.cases.0 c.in_ok-read.ensures.value c.loop-first.invariant)

pub returns : goal.returns
returns c = name_done c.loop-first.name.items c.loop-first.rest.now (name_at c.args.text.now) c.in_default.ensures.cases c.loop-first.invariant
