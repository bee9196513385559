use Rattle.std.proofs.Common.{◌++◌, ◌∷◌, [], List, ℕ, sym, ap, ◌∙◌, append_assoc}
use Rattle.std.proofs.lemmas.Result.{err_from_is_err_and}
use Rattle.std.proofs.lemmas.Option.{some_pair_parts}
use Rattle.script_lang.specs.declared.line.Line.{Line}
use Rattle.report_text.specs.Reading.{cut}
use Rattle.report_text.specs.Text.{body_of_line}
use Rattle.report_text.proofs.Cuts.{cut-some, cut-joins}
use Rattle.report_text.proofs.Begins.{begins, err_only, err_passes, pair_of, pair_same, LineAndRest, seen}
use Rattle.report_text.proofs.reading.first_line.Goals as goal

pub returns-in_err-body-clause-only : goal.returns-in_err-body-clause-only
returns-in_err-body-clause-only c line others h is =
    let p = err_from_is_err_and c.from_residual.result c.from_residual.ensures.1 in
    let expected : LineAndRest = pair_of line others in
    rw (p.1, p.2) (err_only seen c.in_err-body.field-0.0 (cut 10 c.args.bytes.now) (body_of_line line, others) expected (begins c.args.bytes.now line others h is) c.in_err-body.ensures)

pub returns-in_err-read-clause-only : goal.returns-in_err-read-clause-only
returns-in_err-read-clause-only c line others h is =
    let p = err_from_is_err_and c.from_residual-in_err-read.result c.from_residual-in_err-read.ensures.1 in
    let expected : LineAndRest = pair_of line others in
    let same = some_pair_parts c.in_ok-body.body.now (body_of_line line) c.in_ok-body.others.now others (sym c.in_ok-body.ensures ∙ begins c.args.bytes.now line others h is) in
    rw (p.1, p.2) (err_passes (λ (l : Line). l) seen c.in_err-read.field-0.0 line expected (c.in_err-read.ensures.only line h same.0))

pub returns-clause-found : goal.returns-clause-found
returns-clause-found c =
    let joined = cut-joins 10 c.args.bytes.now c.in_ok-body.body.now c.in_ok-body.others.now c.in_ok-body.ensures in
    let body = c.in_ok-read.ensures.found.1 in
    (c.in_ok-read.ensures.found.0, joined ∙ ap (λ (x : List ℕ). x ++ 10 ∷ c.in_ok-body.others.now) body ∙ sym (append_assoc (body_of_line c.in_ok-read.read) (10 ∷ []) c.in_ok-body.others.now))

pub returns-clause-only : goal.returns-clause-only
returns-clause-only c line others h is =
    let same = some_pair_parts c.in_ok-body.body.now (body_of_line line) c.in_ok-body.others.now others (sym c.in_ok-body.ensures ∙ begins c.args.bytes.now line others h is) in
    pair_same c.in_ok-read.read c.in_ok-body.others.now line others (c.in_ok-read.ensures.only line h same.0) same.1

pub returns-clause-shorter : goal.returns-clause-shorter
returns-clause-shorter c = (cut-some 10 c.args.bytes.now c.in_ok-body.body.now c.in_ok-body.others.now c.in_ok-body.ensures).shorter
