use Rattle.std.proofs.Common.{inl, inr}
use Rattle.mount_core.proofs.Memory.{on_err}
use Rattle.serve_program.proofs.answering.answer_request.Goals as goal

pub returns-clause-answers : goal.returns-clause-answers
returns-clause-answers g c = record { line = c.in_ok-line.line; serves = c.in_ok-line.ensures.serves; tells = c.in_ok-answer.ensures }

pub returns-in_err-line-clause-broken : goal.returns-in_err-line-clause-broken
returns-in_err-line-clause-broken g c = on_err c.from_residual.result _ (inl c.in_err-line.ensures.broken)

pub returns-in_err-answer-clause-broken : goal.returns-in_err-answer-clause-broken
returns-in_err-answer-clause-broken g c = on_err c.from_residual-in_err-answer.result _ (inr (c.in_ok-line.line, c.in_ok-line.ensures.serves))
