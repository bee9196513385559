-- Numbers that are written one after the other.
use Rattle.std.proofs.Common.{◌≡◌, ℕ, List, [], ◌∷◌, ◌++◌, ap, ◌∙◌, append-nil}
use Rattle.std.specs.List.{flat_map}

pub four_joined : (first all flat a b c d p q r s : List ℕ) → all ≡ first ++ flat → flat ≡ flat_map (λ x. x) (a ∷ b ∷ c ∷ d ∷ [])
    → a ≡ p → b ≡ q → c ≡ r → d ≡ s → all ≡ first ++ (p ++ (q ++ (r ++ s)))
four_joined first all flat a b c d p q r s all_is flat_is a_is b_is c_is d_is =
    all_is ∙ ap (λ l. first ++ l) (flat_is ∙ (λ i. a_is i ++ (b_is i ++ (c_is i ++ append-nil (d_is i) i))))

pub five_joined : (first all flat a b c d e p q r s t : List ℕ) → all ≡ first ++ flat → flat ≡ flat_map (λ x. x) (a ∷ b ∷ c ∷ d ∷ e ∷ [])
    → a ≡ p → b ≡ q → c ≡ r → d ≡ s → e ≡ t → all ≡ first ++ (p ++ (q ++ (r ++ (s ++ t))))
five_joined first all flat a b c d e p q r s t all_is flat_is a_is b_is c_is d_is e_is =
    all_is ∙ ap (λ l. first ++ l) (flat_is ∙ (λ i. a_is i ++ (b_is i ++ (c_is i ++ (d_is i ++ append-nil (e_is i) i)))))
