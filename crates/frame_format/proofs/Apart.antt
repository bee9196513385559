-- No bytes are two requests, or two answers.
use Rattle.std.proofs.Common.{◌≡◌, ℕ, List, ◌++◌, Some, drop, refl, sym, ap, ◌∙◌}
use Rattle.std.specs.Int.{w64, to_le_bytes}
use Rattle.std.proofs.lemmas.Nat.{from_le_bytes-to_le_bytes_8}
use Rattle.script_lang.specs.declared.script.Numbered.{Numbered}
use Rattle.index_entry.specs.Spelling.{number_in}
use Rattle.frame_format.specs.declared.answering.Answer.{Answer}
use Rattle.frame_format.specs.declared.head.Head.{Head}
use Rattle.frame_format.specs.Asking.{request_of}
use Rattle.frame_format.specs.Heads.{head_bytes, FitsHead}
use Rattle.frame_format.specs.Requests.{IsRequest, head_of, payload_of, request_bytes}
use Rattle.frame_format.specs.Telling.{FitsAnswer, answer_head, answer_bytes}
use Rattle.frame_format.proofs.AskedAgain.{request_again}
use Rattle.frame_format.proofs.HeadNumbers.{head_in, head_again}

head_first : (head : Head) (rest : List ℕ) → FitsHead head → head_in (head_bytes head ++ rest) ≡ head
unfolding head_bytes
head_first head rest fits = head_again head fits

behind_head : (head : Head) (rest : List ℕ) → drop 48 (head_bytes head ++ rest) ≡ rest
unfolding head_bytes
behind_head head rest = refl

one_is : (a b : Numbered) → Some a ≡ Some b → a ≡ b
one_is a b is = cc

pub one_request : (one other : Numbered) → IsRequest one → IsRequest other → FitsHead (head_of one) → FitsHead (head_of other) → request_bytes one ≡ request_bytes other → one ≡ other
one_request one other is is_other fits fits_other same =
    let heads : head_of one ≡ head_of other = sym (head_first (head_of one) (payload_of one) fits) ∙ ap head_in same ∙ head_first (head_of other) (payload_of other) fits_other in
    let rests : payload_of one ≡ payload_of other = sym (behind_head (head_of one) (payload_of one)) ∙ ap (drop 48) same ∙ behind_head (head_of other) (payload_of other) in
    one_is one other (sym (request_again (head_of one) (payload_of one) one is refl refl) ∙ request_again (head_of one) (payload_of one) other is_other heads rests)

abbrev read_of : List ℕ → Answer
read_of bytes = record { number = number_in 0 bytes; status = number_in 8 bytes; value = number_in 16 bytes; payload = drop 32 bytes }

answer_first : (answer : Answer) → FitsAnswer answer → read_of (answer_bytes answer) ≡ answer
unfolding answer_head
answer_first answer fits = (
    let a : number_in 0 (answer_bytes answer) ≡ answer.number = from_le_bytes-to_le_bytes_8 answer.number fits.number_fits in
    let b : number_in 8 (answer_bytes answer) ≡ answer.status = from_le_bytes-to_le_bytes_8 answer.status fits.status_fits in
    let c : number_in 16 (answer_bytes answer) ≡ answer.value = from_le_bytes-to_le_bytes_8 answer.value fits.value_fits in
    λ i. record { number = a i; status = b i; value = c i; payload = answer.payload })

pub one_answer : (one other : Answer) → FitsAnswer one → FitsAnswer other → answer_bytes one ≡ answer_bytes other → one ≡ other
one_answer one other fits fits_other same = sym (answer_first one fits) ∙ ap read_of same ∙ answer_first other fits_other
