use Rattle.std.proofs.Common.{◌≡◌, List, ℕ, Option, Some, None, sym, ◌∙◌}
use Rattle.std.specs.Prelude.{IfSome}
use Rattle.script_lang.specs.declared.script.Numbered.{Numbered}
use Rattle.script_lang.specs.Ranges.{FitsStatement}
use Rattle.frame_format.specs.declared.head.Head.{Head}
use Rattle.frame_format.specs.Asking.{request_of}
use Rattle.frame_format.specs.Requests.{IsRequest, head_of, payload_of}
use Rattle.frame_format.proofs.AskedAgain.{request_again, request_found}
use Rattle.frame_format.proofs.reading.request.Goals as goal

is_found : (head : Head) (payload : List ℕ) (read : Option Numbered) → read ≡ request_of head payload → IfSome read (λ asked. IsRequest asked × (head ≡ head_of asked) × (payload ≡ payload_of asked))
is_found head payload (Some asked) is = let f = request_found head payload asked (sym is) in (f.is, f.is_head, f.is_payload)
is_found head payload None is = tt

is_fit : (head : Head) (payload : List ℕ) (read : Option Numbered) → read ≡ request_of head payload → IfSome read (λ asked. FitsStatement asked.statement)
is_fit head payload (Some asked) is = (request_found head payload asked (sym is)).fits
is_fit head payload None is = tt

pub returns-clause-found : goal.returns-clause-found
returns-clause-found c = is_found c.args.head.now c.args.payload c.made.result c.made.ensures

pub returns-clause-only : goal.returns-clause-only
returns-clause-only c = λ asked is is_head is_payload. c.made.ensures ∙ request_again c.args.head.now c.args.payload asked is is_head is_payload

pub returns-clause-fits : goal.returns-clause-fits
returns-clause-fits c = is_fit c.args.head.now c.args.payload c.made.result c.made.ensures
