-- The status of lines, line by line.
use Rattle.std.proofs.Common.{◌≡◌, ℕ, ◌≤◌, Bool, true, false, ◌||◌, List, [], ◌∷◌, length, drop, refl, sym, ap, ◌∙◌, arith}
use Rattle.std.specs.Prelude.{max, if◌then◌else◌}
use Rattle.std.proofs.Math.ListN.{drop_of_length-le}
use Rattle.script_lang.specs.declared.line.Line.{Line}
use Rattle.program_ends.specs.Outcomes.{is_damage, is_fault, is_refusal, has_line, status_of}

-- the status of lines, of which some damage, some fault and some refusal are there or not
abbrev status_by : Bool → Bool → Bool → ℕ
status_by d f r = if d then 7 else if f then 4 else if r then 1 else 0

worst_of : (d f r ds fs rs : Bool) → status_by (d || ds) (f || fs) (r || rs) ≡ max (status_by (d || false) (f || false) (r || false)) (status_by ds fs rs)
worst_of true f r true fs rs = refl
worst_of true f r false true rs = refl
worst_of true f r false false true = refl
worst_of true f r false false false = refl
worst_of false true r true fs rs = refl
worst_of false true r false true rs = refl
worst_of false true r false false true = refl
worst_of false true r false false false = refl
worst_of false false true true fs rs = refl
worst_of false false true false true rs = refl
worst_of false false true false false true = refl
worst_of false false true false false false = refl
worst_of false false false true fs rs = refl
worst_of false false false false true rs = refl
worst_of false false false false false true = refl
worst_of false false false false false false = refl

-- the status of lines is the worst of that of the first and that of the others
worst : (line : Line) (lines : List Line) → status_of (line ∷ lines) ≡ max (status_of (line ∷ [])) (status_of lines)
worst line lines = worst_of (is_damage line.outcome) (is_fault line.outcome) (is_refusal line.outcome) (has_line is_damage lines) (has_line is_fault lines) (has_line is_refusal lines)

max_assoc : (a b c : ℕ) → max (max a b) c ≡ max a (max b c)
max_assoc a b c = omega arith

max_of_zero : (a : ℕ) → max 0 a ≡ a
max_of_zero a = omega arith

-- the worst of this status and those of the lines
abbrev pub status_from : ℕ → List Line → ℕ
status_from status [] = status
status_from status (line ∷ lines) = status_from (max status (status_of (line ∷ []))) lines

status_from-all : (status : ℕ) (lines : List Line) → status_from status lines ≡ max status (status_of lines)
status_from-all status [] = omega arith
status_from-all status (line ∷ lines) =
    status_from-all (max status (status_of (line ∷ []))) lines
    ∙ max_assoc status (status_of (line ∷ [])) (status_of lines)
    ∙ ap (λ rest. max status rest) (sym (worst line lines))

-- behind the last line stands the status of all
pub status_ends : (status i : ℕ) (lines : List Line) → length lines ≤ i → status_from status (drop i lines) ≡ status_from 0 lines → status ≡ status_of lines
status_ends status i lines past kept =
    let ended : status_from status (drop i lines) ≡ status = ap (status_from status) (drop_of_length-le lines past) in
    sym ended ∙ kept ∙ status_from-all 0 lines ∙ max_of_zero (status_of lines)
