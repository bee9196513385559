-- The lesser of two names.
use Rattle.std.proofs.Common.{◌≡◌, ◌⊎◌, inl, inr, Option, Some, None, refl, ap, sym, ◌∙◌, subst}
use Rattle.std.specs.Ordering.{nat_cmp, match_ordering, ordering_reverse}
use Rattle.std.specs.declared.cmp.Ordering.TheVariants.{Less, Equal, Greater}
use Rattle.std.specs.Cmp.Lexicographic.{slice_cmp, nat_list_cmp_total}
use Rattle.std.specs.FinMap.{slice_cmp-IsAntisymmetric, nat_cmp-IsAntisymmetric}
use Rattle.store_api.specs.Step.{Name}
use Rattle.spread_store.specs.Doubled.{IsBelow, IsAtMost}
use Rattle.spread_store.specs.Numbered.{least_of}

pub at_most_trans : (a b c : Name) → IsAtMost a b → IsAtMost b c → IsAtMost a c
at_most_trans a b c (inl e) q = subst (λ z. IsAtMost z c) (sym e) q
at_most_trans a b c (inr l) (inl e) = inr (subst (λ z. IsBelow a z) e l)
at_most_trans a b c (inr l) (inr m) = inr (nat_list_cmp_total.trans a b c l m)

-- it is one of them, and at most each
pub record IsLesser (kept name which : Name) : Type 0 where
  pub one : (kept ≡ which) ⊎ (name ≡ which)
  pub below_kept : IsAtMost which kept
  pub below_name : IsAtMost which name

pub lesser : (kept name which : Name) → least_of (Some kept) name ≡ Some which → IsLesser kept name which
lesser kept name which e = elim (slice_cmp nat_cmp name kept) as (λ o. slice_cmp nat_cmp name kept ≡ o → match_ordering o (Some name) (Some kept) (Some kept) ≡ Some which → IsLesser kept name which) [
  | Less ↦ λ c e. let is : name ≡ which = cc in record { one = inr is; below_kept = inr (subst (λ z. IsBelow z kept) is c); below_name = inl (sym is) }
  | Equal ↦ λ c e. let is : kept ≡ which = cc in record { one = inl is; below_kept = inl (sym is); below_name = inl (sym is ∙ sym (slice_cmp-IsAntisymmetric nat_cmp-IsAntisymmetric name kept c)) }
  | Greater ↦ λ c e. let is : kept ≡ which = cc in record { one = inl is; below_kept = inl (sym is); below_name = inr (subst (λ z. IsBelow z name) is (nat_list_cmp_total.antisymm kept name ∙ ap ordering_reverse c)) }
] refl e

pub least_there : (kept : Option Name) (name : Name) → least_of kept name ≡ None → ⊥
least_there None name e = absurd (cc)
least_there (Some kept) name e = elim (slice_cmp nat_cmp name kept) as (λ o. match_ordering o (Some name) (Some kept) (Some kept) ≡ None → ⊥) [
  | Less ↦ λ x. absurd (cc)
  | Equal ↦ λ x. absurd (cc)
  | Greater ↦ λ x. absurd (cc)
] e

pub least_cases : (kept : Option Name) (name which : Name) → least_of kept name ≡ Some which → (kept ≡ Some which) ⊎ (name ≡ which)
least_cases None name which e = inr (cc)
least_cases (Some kept) name which e = elim (lesser kept name which e).one [ inl was ↦ inl (ap (λ z. Some z) was) | inr is ↦ inr is ]

pub least_name : (kept : Option Name) (name which : Name) → least_of kept name ≡ Some which → IsAtMost which name
least_name None name which e = let is : name ≡ which = cc in inl (sym is)
least_name (Some kept) name which e = (lesser kept name which e).below_name

pub least_kept : (kept : Option Name) (name which old : Name) → kept ≡ Some old → least_of kept name ≡ Some which → IsAtMost which old
least_kept None name which old is e = absurd (cc)
least_kept (Some kept) name which old is e = let same : kept ≡ old = cc in subst (λ z. IsAtMost which z) same (lesser kept name which e).below_kept

pub is_some_or : (o : Option Name) → ((name : Name) × (o ≡ Some name)) ⊎ (o ≡ None)
is_some_or None = inr refl
is_some_or (Some name) = inl (name, refl)
