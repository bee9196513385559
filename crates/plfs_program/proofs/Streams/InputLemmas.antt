-- What two reads give together.
use Rattle.std.proofs.Common.{ℕ, ◌≡◌, ◌⊎◌, inl, inr, List, [], ◌++◌, length, min, take, drop, Option, Some, None, refl, sym, ap, subst, ◌∙◌, append_assoc, arith}
use Rattle.std.proofs.lemmas.Bool.{cases_lt}
use Rattle.std.proofs.lemmas.Grind.{common_steps}
use Rattle.std.proofs.lemmas.List.{drop_all, length-take, take-append-drop}
use Rattle.edge_io.specs.Source.{HandsOver, EndsAtLast}
use Rattle.plfs_program.specs.Input.{IsWholeInput, held}
use Rattle.edge_io.specs.Source.{IsAtEnd}

-- two pieces, one after the other, are one
pub handed_both : (a b : List ℕ) (old mid new : Option (List ℕ)) → HandsOver a old mid → HandsOver b mid new → HandsOver (a ++ b) old new
handed_both a b None mid new first second = let P : Option (List ℕ) → Type 0 = λ m. HandsOver b m new in subst P first second
handed_both a b (Some left) mid new (rest, now, split) second =
    let P : Option (List ℕ) → Type 0 = λ m. HandsOver b m new in
    let (last, then, parted) = subst P now second in
    (last, then, (split ∙ ap (λ r. a ++ r) parted) ∙ sym (append_assoc a b last))

-- nothing more is handed over only at the end
pub ended : (piece : List ℕ) (old new : Option (List ℕ)) → length piece ≡ 0 → HandsOver piece old new → EndsAtLast 0 old → IsAtEnd new
ended piece None new none handed end = let P : Option (List ℕ) → Type 0 = IsAtEnd in subst P (sym handed) tt
ended piece (Some left) new none (rest, now, split) end =
    let P : Option (List ℕ) → Type 0 = IsAtEnd in
    let whole : left ≡ [] = end.0 refl in
    let gone : rest ≡ [] = grind (arith, common_steps, split, whole, none) in
    subst P (sym now) gone

-- a front of bytes that are held is all that is asked for
pub front_held : (limit place : ℕ) (bytes front behind : List ℕ) → place ≡ min limit (length bytes) → front ≡ take place bytes → behind ≡ drop place bytes → IsWholeInput limit front (held bytes) (held behind)
front_held limit place bytes front behind there is_front is_behind = record {
  handed = (behind, refl, sym (take-append-drop place bytes) ∙ (ap (λ f. f ++ drop place bytes) (sym is_front) ∙ ap (λ b. front ++ b) (sym is_behind)));
  faults = refl;
  within = omega (arith, there, ap length is_front, length-take place bytes);
  to_end = elim (cases_lt limit (length bytes)) as (λ _. (length front ≡ limit) ⊎ (behind ≡ [])) [
    | inl less ↦ inl (omega (arith, less, there, ap length is_front, length-take place bytes))
    | inr least ↦ inr (is_behind ∙ drop_all place bytes (omega (arith, least, there)))
  ];
}
