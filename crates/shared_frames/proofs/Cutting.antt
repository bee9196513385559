-- Where an answer ends.
use Rattle.std.proofs.Common.{◌≡◌, ℕ, ◌+◌, ◌-◌, ◌<◌, ◌≤◌, ◌^◌, List, ◌++◌, length, take, inl, inr, refl, sym, ap, ◌∙◌, arith}
use Rattle.std.proofs.Math.Seq.{take-append-add}
use Rattle.std.proofs.lemmas.Bool.{cases_lt}
use Rattle.std.proofs.lemmas.Nat.{from_le_bytes-to_le_bytes_8}
use Rattle.std.proofs.lemmas.List.{length-append, length-take-le, take_all}
use Rattle.index_entry.specs.Spelling.{number_in}
use Rattle.frame_format.specs.declared.answering.Answer.{Answer}
use Rattle.frame_format.specs.Telling.{answer_bytes, answer_head}
use Rattle.shared_frames.specs.Answers.{missing}
use Rattle.shared_frames.proofs.Moving.{below, beyond}

-- the length that an answer's head says
said : (answer : Answer) (rest : List ℕ) → length answer.payload < 2 ^ 64 → number_in 24 (answer_head answer ++ rest) ≡ length answer.payload
unfolding answer_head
said answer rest few = from_le_bytes-to_le_bytes_8 (length answer.payload) few

head_long : (answer : Answer) → length (answer_head answer) ≡ 32
unfolding answer_head
head_long answer = refl

headed : (answer : Answer) (rest : List ℕ) → length (answer_head answer ++ rest) ≡ 32 + length rest
headed answer rest = length-append (answer_head answer) rest ∙ ap (λ n. n + length rest) (head_long answer)

parted : (answer : Answer) (m : ℕ) → take (32 + m) (answer_bytes answer) ≡ answer_head answer ++ take m answer.payload
parted answer m = ap (λ n. take (n + m) (answer_bytes answer)) (sym (head_long answer)) ∙ take-append-add (answer_head answer) answer.payload m

in_head : (came : List ℕ) (n : ℕ) → length came ≡ n → n < 32 → missing came ≡ 32 - n
in_head came n long less = rw (below (length came) 32 (omega (arith, long, less))) (ap (λ z. 32 - z) long)

behind_head : (came : List ℕ) (k n : ℕ) → length came ≡ 32 + k → number_in 24 came ≡ n → missing came ≡ n - k
behind_head came k n long is = rw (beyond (length came) 32 (omega (arith, long)), is) (ap (λ z. n - z) (omega (arith, long)))

behind : (answer : Answer) (m : ℕ) → m ≤ length answer.payload → length answer.payload < 2 ^ 64 → missing (take (32 + m) (answer_bytes answer)) ≡ length answer.payload - m
behind answer m within few =
    let rest : List ℕ = take m answer.payload in
    let counted : length rest ≡ m = length-take-le m answer.payload within in
    ap missing (parted answer m) ∙ behind_head (answer_head answer ++ rest) m (length answer.payload) (headed answer rest ∙ ap (λ z. 32 + z) counted) (said answer rest few)

long : (answer : Answer) → length (answer_bytes answer) ≡ 32 + length answer.payload
long answer = headed answer answer.payload

within : (answer : Answer) (n m : ℕ) → n ≡ 32 + m → length answer.payload < 2 ^ 64 → n < length (answer_bytes answer)
    → (1 ≤ missing (take n (answer_bytes answer))) × (n + missing (take n (answer_bytes answer)) ≤ length (answer_bytes answer))
within answer n m is few short =
    let fits : m < length answer.payload = omega (arith, is, short, long answer) in
    let left : missing (take n (answer_bytes answer)) ≡ length answer.payload - m = ap (λ z. missing (take z (answer_bytes answer))) is ∙ behind answer m (omega (arith, fits)) few in
    (omega (arith, left, fits), omega (arith, left, fits, is, long answer))

pub front : (answer : Answer) (n : ℕ) → length answer.payload < 2 ^ 64 → n < length (answer_bytes answer)
    → (1 ≤ missing (take n (answer_bytes answer))) × (n + missing (take n (answer_bytes answer)) ≤ length (answer_bytes answer))
front answer n few short = elim (cases_lt n 32) as (λ _. (1 ≤ missing (take n (answer_bytes answer))) × (n + missing (take n (answer_bytes answer)) ≤ length (answer_bytes answer))) [
  | inl less ↦
      let left : missing (take n (answer_bytes answer)) ≡ 32 - n = in_head (take n (answer_bytes answer)) n (length-take-le n (answer_bytes answer) (omega (arith, short))) less in
      (omega (arith, left, less), omega (arith, left, less, long answer))
  | inr least ↦ within answer n (n - 32) (omega (arith, least)) few short
]

pub whole : (answer : Answer) → length answer.payload < 2 ^ 64 → missing (answer_bytes answer) ≡ 0
whole answer few =
    ap missing (sym (take_all (32 + length answer.payload) (answer_bytes answer) (omega (arith, long answer))))
    ∙ behind answer (length answer.payload) (omega arith) few ∙ omega arith
