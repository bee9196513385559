-- What two writes take together.
use Rattle.std.proofs.Common.{ℕ, ◌≡◌, ◌+◌, ◌-◌, List, ◌++◌, length, take, drop, Option, Some, None, sym, ap, subst, ◌∙◌, append_assoc, arith, take-add}
use Rattle.std.proofs.lemmas.Grind.{common_steps}
use Rattle.edge_io.specs.Sink.{TakesOn}

taken_both : (m n : ℕ) (text : List ℕ) (old mid new : Option (List ℕ)) → TakesOn (take m text) old mid → TakesOn (take n (drop m text)) mid new → TakesOn (take (m + n) text) old new
taken_both m n text None mid new first second = let P : Option (List ℕ) → Type 0 = λ o. TakesOn (take n (drop m text)) o new in subst P first second
taken_both m n text (Some before) mid new first second =
    let P : Option (List ℕ) → Type 0 = λ o. TakesOn (take n (drop m text)) o new in
    subst P first second ∙ ap Some (append_assoc before (take m text) (take n (drop m text)) ∙ ap (λ b. before ++ b) (sym (take-add m n text)))

rest_whole : (m : ℕ) (text : List ℕ) → take (length text - m) (drop m text) ≡ drop m text
rest_whole m text = grind (arith, common_steps)

-- the first bytes of the text, and then the first of the rest
pub taken_on : (m n : ℕ) (text : List ℕ) (old mid new : Option (List ℕ)) → TakesOn (take m text) old mid → TakesOn (take n (take (length text - m) (drop m text))) mid new
    → TakesOn (take (m + n) text) old new
taken_on m n text old mid new first second =
    let P : List ℕ → Type 0 = λ rest. TakesOn (take n rest) mid new in
    taken_both m n text old mid new first (subst P (rest_whole m text) second)
