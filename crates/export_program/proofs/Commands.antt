-- Words that are an export.
use Rattle.std.proofs.Common.{◌≡◌, ℕ, ◌≤◌, true, false, List, [], ◌∷◌, length, get_or, refl, sym, ap, ◌∙◌, arith, codes}
use Rattle.export_program.specs.Words.{IsExportCommand, beside, over_it}

pub two_words : (words : List (List ℕ)) (verb : List ℕ) → 2 ≤ length words → length words ≤ 2 → verb ≡ get_or words 0 verb → verb ≡ codes "export" → IsExportCommand words (record { over = false })
two_words [] verb some few is named = absurd (omega (arith, some))
two_words (w ∷ []) verb some few is named = absurd (omega (arith, some))
two_words (w ∷ folder ∷ []) verb some few is named = beside folder (ap (λ (x : List ℕ). x ∷ folder ∷ []) (sym is ∙ named)) refl
two_words (w ∷ v ∷ u ∷ words) verb some few is named = absurd (omega (arith, few))

pub three_words : (words : List (List ℕ)) (verb option : List ℕ) → 3 ≤ length words → length words ≤ 3 → verb ≡ get_or words 0 verb → option ≡ get_or words 2 option → verb ≡ codes "export" → option ≡ codes "--over" → IsExportCommand words (record { over = true })
three_words [] verb option some few is other named said = absurd (omega (arith, some))
three_words (w ∷ []) verb option some few is other named said = absurd (omega (arith, some))
three_words (w ∷ v ∷ []) verb option some few is other named said = absurd (omega (arith, some))
three_words (w ∷ folder ∷ o ∷ []) verb option some few is other named said =
    over_it folder (ap (λ (x : List ℕ). x ∷ folder ∷ o ∷ []) (sym is ∙ named) ∙ ap (λ (y : List ℕ). codes "export" ∷ folder ∷ y ∷ []) (sym other ∙ said)) refl
three_words (w ∷ v ∷ u ∷ t ∷ words) verb option some few is other named said = absurd (omega (arith, few))
