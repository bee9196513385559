use Rattle.std.proofs.Common.{◌≡◌, rules, arith, sym, ap, ◌∙◌, true, refl}
use Rattle.std.proofs.lemmas.Result.{err_from_is_err_and}
use Rattle.std.proofs.lemmas.Option.{same_Some}
use Rattle.std.proofs.lemmas.Bool.Decides.{nat_tests}
use Rattle.script_lang.specs.declared.line.Line.{Line}
use Rattle.report_text.specs.Text.{ListsLogicalNames, body_of_line}
use Rattle.report_text.specs.ReadingOutcomes.{line_at}
use Rattle.report_text.proofs.Begins.{err_only}
use Rattle.report_text.proofs.FitsOutcomes.{line_fits}
use Rattle.report_text.proofs.Lines.{line_again}
use Rattle.report_text.proofs.reading.line.Goals as goal

pub returns-in_err-read-clause-only : goal.returns-in_err-read-clause-only
returns-in_err-read-clause-only c line h is =
    let p = err_from_is_err_and c.from_residual.result c.from_residual.ensures.1 in
    rw (p.1, p.2) (err_only (λ (l : Line). l) c.in_err-read.field-0.0 (line_at c.args.body.now) line line (ap line_at is ∙ line_again line h) c.in_err-read.ensures)

pub returns-then-not-lists_logical_names-clause-only : goal.returns-then-not-lists_logical_names-clause-only
returns-then-not-lists_logical_names-clause-only c line h is =
    let same : c.in_ok-read.read ≡ line = same_Some c.in_ok-read.read line (sym c.in_ok-read.ensures ∙ ap line_at is ∙ line_again line h) in
    let logical : ListsLogicalNames c.in_ok-read.read.outcome = rw same h.logical in
    let yes : c.lists_logical_names.result ≡ true = c.lists_logical_names.ensures.1 logical in
    absurd (grind (arith, nat_tests, yes))

pub returns-then-ne-clause-only : goal.returns-then-ne-clause-only
returns-then-ne-clause-only c line h is =
    let same : c.in_ok-read.read ≡ line = same_Some c.in_ok-read.read line (sym c.in_ok-read.ensures ∙ ap line_at is ∙ line_again line h) in
    let printed : c.append_body.new.out.items ≡ body_of_line c.in_ok-read.read = rw (c.in_ok-append_body.ensures, c.clear.ensures.items) refl in
    let spelled : c.as_slice.result.now ≡ c.args.body.now = c.as_slice.ensures.value ∙ printed ∙ ap body_of_line same ∙ sym is in
    absurd (search (rules, spelled, c.if-ne.ensures))

pub returns-clause-found : goal.returns-clause-found
returns-clause-found c =
    let printed : c.append_body.new.out.items ≡ body_of_line c.in_ok-read.read = rw (c.in_ok-append_body.ensures, c.clear.ensures.items) refl in
    let spelled : c.as_slice.result.now ≡ body_of_line c.in_ok-read.read = c.as_slice.ensures.value ∙ printed in
    let same : c.args.body.now ≡ body_of_line c.in_ok-read.read = search (rules, spelled, c.if-ne.ensures) in
    let yes : c.lists_logical_names.result ≡ true = grind (arith, nat_tests) in
    (line_fits c.in_ok-read.read (ap line_at (sym same) ∙ c.in_ok-read.ensures) (c.lists_logical_names.ensures.0 yes), same)

pub returns-clause-only : goal.returns-clause-only
returns-clause-only c line h is = same_Some c.in_ok-read.read line (sym c.in_ok-read.ensures ∙ ap line_at is ∙ line_again line h)
