use Rattle.std.proofs.Common.{sym}
use Rattle.std.proofs.lemmas.Result.{err_from_is_err_and}
use Rattle.report_text.proofs.Cuts.{cut-some}
use Rattle.report_text.proofs.Loops.{goes_on, ends, is_done, ends_last, items_from}
use Rattle.report_text.proofs.reading_items.all_of.Goals as goal

pub returns-in_err-read : goal.returns-in_err-read
returns-in_err-read g c =
    let p = err_from_is_err_and c.from_residual.result c.from_residual.ensures.1 in
    rw (p.1, p.2) (ends g.T.Readable.read_at c.args.separator c.in_err-read.field-0.0 c.loop-item.items c.loop-item.rest.now c.in-Some.item.now c.in-Some.others.now (items_from g.T.Readable.read_at c.args.separator c.args.text.now) (sym c.in-Some.ensures) c.in_err-read.ensures c.loop-item.invariant)

pub loop-item-smaller : goal.loop-item-smaller
loop-item-smaller g c = (cut-some c.args.separator c.loop-item.rest.now c.in-Some.item.now c.in-Some.others.now (sym c.in-Some.ensures)).shorter

pub loop-item-preserved : goal.loop-item-preserved
loop-item-preserved g c =
    rw (c.in_ok-push.ensures.ok) (goes_on g.T.Readable.read_at c.args.separator c.loop-item.items c.loop-item.rest.now c.in-Some.item.now c.in-Some.others.now c.in_ok-read.field-0 (items_from g.T.Readable.read_at c.args.separator c.args.text.now) (sym c.in-Some.ensures) c.in_ok-read.ensures c.loop-item.invariant)

pub returns-in_err-read-2 : goal.returns-in_err-read-2
returns-in_err-read-2 g c =
    let p = err_from_is_err_and c.from_residual-in_err-read-2.result c.from_residual-in_err-read-2.ensures.1 in
    rw (p.1, p.2) (ends_last g.T.Readable.read_at c.args.separator c.in_err-read-2.field-0.0 c.loop-item.items c.loop-item.rest.now (items_from g.T.Readable.read_at c.args.separator c.args.text.now) (sym c.in_default.ensures) c.in_err-read-2.ensures c.loop-item.invariant)

pub returns : goal.returns
returns g c =
    rw (c.in_ok-push-2.ensures.ok) (is_done g.T.Readable.read_at c.args.separator c.loop-item.items c.loop-item.rest.now c.in_ok-read-2.field-0 (items_from g.T.Readable.read_at c.args.separator c.args.text.now) (sym c.in_default.ensures) c.in_ok-read-2.ensures c.loop-item.invariant)
