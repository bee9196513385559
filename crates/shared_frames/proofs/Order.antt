-- Answers go in the order of the frames.
use Rattle.std.proofs.Common.{◌≡◌, ◌++◌, ◌∷◌, ℕ, List, [], sym, ap, ◌∙◌, append-nil}
use Rattle.std.proofs.lemmas.List.{append_assoc}
use Rattle.shared_frames.specs.Exchanging.{Exchanging, Runs, begun, offered, given, moved}

-- what was owed at the start and what was asked then are what was told and what is owed
pub in_order : (start end : Exchanging) (asked told : List ℕ) → Runs start asked told end → start.owed ++ asked ≡ told ++ end.owed
in_order from to came went (begun start) = append-nil start.owed
in_order from to came went (offered start now end asked told place head payload before step) =
    sym (append_assoc start.owed asked (place ∷ [])) ∙ ap (λ (z : List ℕ). z ++ place ∷ []) (in_order start now asked told before)
    ∙ append_assoc told now.owed (place ∷ []) ∙ ap (λ (z : List ℕ). told ++ z) (sym step.owed)
in_order from to came went (given start now end asked told place bytes before step) =
    in_order start now asked told before ∙ ap (λ (z : List ℕ). told ++ z) step.owed ∙ sym (append_assoc told (place ∷ []) end.owed)
in_order from to came went (moved start now end asked told before same) =
    in_order start now asked told before ∙ ap (λ (z : List ℕ). told ++ z) (sym same)
