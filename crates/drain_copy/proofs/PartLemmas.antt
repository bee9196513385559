-- Parts of bounded size.
use Rattle.std.proofs.Common.{◌≡◌, List, ℕ, ◌++◌, ap, ◌∙◌, append_assoc}

-- five numbers, each behind what is there
pub five_in_turn : (old v w x y z a b c d e : List ℕ) → a ≡ old ++ v → b ≡ a ++ w → c ≡ b ++ x → d ≡ c ++ y → e ≡ d ++ z → e ≡ old ++ (v ++ w ++ x ++ y ++ z)
five_in_turn old v w x y z a b c d e one two three four five =
    let regrouped : old ++ v ++ w ++ x ++ y ++ z ≡ old ++ (v ++ w ++ x ++ y ++ z) = simp append_assoc in
    five ∙ ap (λ (l : List ℕ). l ++ z) (four ∙ ap (λ (l : List ℕ). l ++ y) (three ∙ ap (λ (l : List ℕ). l ++ x) (two ∙ ap (λ (l : List ℕ). l ++ w) one))) ∙ regrouped
