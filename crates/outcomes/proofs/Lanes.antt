-- Two vectors are the same where no lane of one differs from that of the other.
use Rattle.std.proofs.Common.{◌≡◌, ◌↔◌, ℕ, ◌+◌, ◌*◌, ◌%◌, ◌^◌, Bool, true, false, cond, not, eqb, List, [], ◌∷◌, length, map, refl, sym, ap, subst, ◌∙◌, arith, w8}
use Rattle.std.specs.Prelude.{IsTrue}
use Rattle.std.proofs.lemmas.Bool.{eqb-true, eq-eqb}
use Rattle.std.proofs.lemmas.Simd.{tops_compared, length-zip2, mask_l-mod}
use Rattle.std.specs.Simd.Lanes.{zip2, mask_l, top}

abbrev differs : ℕ → ℕ → Bool
differs x y = not (eqb x y)

parts : (same : Bool) (more : ℕ) → cond (not same) 1 0 + 2 * more ≡ 0 → (same ≡ true) × (more ≡ 0)
parts true more none = (refl, omega (arith, none))
parts false more none = absurd (omega (arith, none))

alike : (us vs : List ℕ) → length us ≡ length vs → mask_l (zip2 differs us vs) ≡ 0 → us ≡ vs
alike [] [] long none = refl
alike [] (v ∷ vs) long none = absurd (omega (arith, long))
alike (u ∷ us) [] long none = absurd (omega (arith, long))
alike (u ∷ us) (v ∷ vs) long none =
    let here = parts (eqb u v) (mask_l (zip2 differs us vs)) none in
    λ i. eqb-true u v here.0 i ∷ alike us vs (omega (arith, long)) here.1 i

no_lane : (us : List ℕ) → mask_l (zip2 differs us us) ≡ 0
no_lane [] = refl
no_lane (u ∷ us) = λ i. cond (not (eq-eqb u u refl i)) 1 0 + 2 * no_lane us i

-- what `to_bitmask` says of a comparison
pub no_mask : (us vs : List ℕ) → length us ≡ 64 → length vs ≡ 64
    → IsTrue (eqb (mask_l (map (top 7) (zip2 (λ x y. cond (differs x y) 255 0) us vs)) % 2 ^ 64) 0) ↔ (us ≡ vs)
no_mask us vs long other =
    let masks = zip2 differs us vs in
    let least = length-zip2 differs us vs (long ∙ sym other) in
    let told = ap (λ ms. mask_l ms % 2 ^ 64) (tops_compared w8 differs us vs) ∙ mask_l-mod masks 64 (omega (arith, least, long)) in (
      λ none. alike us vs (long ∙ sym other) (sym told ∙ eqb-true _ 0 none),
      λ same. eq-eqb _ 0 (told ∙ subst (λ ws. mask_l (zip2 differs us ws) ≡ 0) same (no_lane us)),
    )
