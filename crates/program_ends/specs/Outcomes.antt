-- What lines say, and the status of a run that printed them.
use Rattle.std.specs.Prelude.{ℕ, ◌≡◌, ◌⊎◌, Bool, true, false, if◌then◌else◌, List, Result, Ok, Err}
use Rattle.std.specs.List.{list_any}
use Rattle.script_lang.specs.declared.line.Line.{Line}
use Rattle.script_lang.specs.declared.line.Outcome.{Outcome}
use Rattle.script_lang.specs.declared.line.Outcome.TheVariants.{Refused, Fault, Damaged}

abbrev pub is_refusal : Outcome → Bool
is_refusal (Refused why) = true
is_refusal _ = false

abbrev pub is_fault : Outcome → Bool
is_fault Fault = true
is_fault _ = false

abbrev pub is_damage : Outcome → Bool
is_damage (Damaged folder file place) = true
is_damage _ = false

-- whether some line has such an outcome
abbrev pub has_line : (Outcome → Bool) → List Line → Bool
has_line test lines = list_any (λ (line : Line). test line.outcome) lines

-- 7 where a line is damaged, else 4 where one is a fault, else 1 where one is a refusal, else 0
abbrev pub status_of : List Line → ℕ
status_of lines =
    if has_line is_damage lines then 7
    else if has_line is_fault lines then 4
    else if has_line is_refusal lines then 1
    else 0

-- all statements were made, or one was refused, or memory was
abbrev pub IsDone : ℕ → Type 0
IsDone status = (status ≡ 0) ⊎ (status ≡ 1) ⊎ (status ≡ 3)

-- it was broken off by such an outcome
abbrev pub is_broken_by : {A : Type 0} → (Outcome → Bool) → Result A Outcome → Bool
is_broken_by test (Ok out) = false
is_broken_by test (Err outcome) = test outcome
