-- Two lists of truncates, one after the other.
use Rattle.std.proofs.Common.{◌≡◌, false, Bool, List, [], ◌∷◌, Some, None, refl, ap, sym, ◌∙◌, inl, inr}
use Rattle.std.specs.Prelude.{◌==◌, ◌&&◌}
use Rattle.std.proofs.lemmas.Bool.{cases_Bool, cond-true, cond-false}
use Rattle.std.proofs.lemmas.Option.{none-some}
use Rattle.plfs_types.specs.declared.entries.Trunc.{Trunc}
use Rattle.refresh_index.specs.Refreshing.{past_same, same_truncs}

abbrev same_one : Trunc → Trunc → Bool
same_one t u = (u.stamp == t.stamp) && (u.size == t.size)

pub other_first : (t : Trunc) (ts us : List Trunc) → None ≡ past_same t us → same_truncs (t ∷ ts) us ≡ false
other_first t ts [] none = refl
other_first t ts (u ∷ us) none = elim (cases_Bool (same_one t u)) [
  | inl one ↦ absurd (none-some us (none ∙ cond-true (same_one t u) (Some us) None one))
  | inr other ↦ cond-false (same_one t u) (same_truncs ts us) false other
]

pub same_first : (t : Trunc) (ts us more : List Trunc) → Some more ≡ past_same t us → same_truncs (t ∷ ts) us ≡ same_truncs ts more
same_first t ts [] more some = absurd (none-some more (sym some))
same_first t ts (u ∷ us) more some = elim (cases_Bool (same_one t u)) [
  | inl one ↦ (let is : Some more ≡ Some us = some ∙ cond-true (same_one t u) (Some us) None one in
      let rest : us ≡ more = cc in
      cond-true (same_one t u) (same_truncs ts us) false one ∙ ap (same_truncs ts) rest)
  | inr other ↦ absurd (none-some more (sym (some ∙ cond-false (same_one t u) (Some us) None other)))
]
