-- Listed marks decide what a mounting says.
use Rattle.std.proofs.Common.{ℕ, ◌≡◌, ◌≢◌, ◌-◌, ◌≤◌, ◌<◌, ◌^◌, List, Option, Some, None, refl, sym, ap, subst, ◌∙◌, inl, inr, arith}
use Rattle.std.specs.Fmt.{decimal}
use Rattle.std.specs.List.{All, Any}
use Rattle.std.specs.Ordering.{nat_cmp, ordering_reverse}
use Rattle.std.specs.Str.Parse.{AllDigits, digits_value}
use Rattle.std.specs.Cmp.Lexicographic.{slice_cmp, nat_list_cmp_total, texts_ties, same_text}
use Rattle.std.specs.declared.cmp.Ordering.{Ordering}
use Rattle.std.specs.declared.cmp.Ordering.TheVariants.{Less, Equal, Greater}
use Rattle.std.specs.Ordering.{is_eq}
use Rattle.std.proofs.lemmas.Fmt.{digits_value-decimal}
use Rattle.std.proofs.lemmas.List.Elements.{All-contains}
use Rattle.std.proofs.lemmas.Str.Parse.{IsNumeralModel, numerals_by_value, tells_digits}
use Rattle.store_api.specs.Step.{Name}
use Rattle.mount_model.specs.Listed.{HasNone, IsGreatest, IsLeastOther, IsMarkOf}
use Rattle.program_ends.specs.Mounting.{AreSpent, AreDamagedAt, HaveNext}

own : IsNumeralModel (AllDigits 10) (digits_value 10)
own = numerals_by_value (AllDigits 10) tells_digits

decimal_same : (a b : ℕ) → a < 2 ^ 64 → b < 2 ^ 64 → decimal a ≡ decimal b → a ≡ b
decimal_same a b a_fits b_fits same = sym (digits_value-decimal own a a_fits) ∙ ap (digits_value 10) same ∙ digits_value-decimal own b b_fits

-- the name is a mark of at most this number
abbrev pub IsUpTo : ℕ → Name → Type 0
IsUpTo greatest name = (n : ℕ) × IsMarkOf name n × (n ≤ greatest)

-- no mark up to the greatest has a greater number
pub above_greatest : (name : Name) (greatest number : ℕ) → IsUpTo greatest name → name ≡ decimal number → greatest < number → number < 2 ^ 32 → ⊥
above_greatest name greatest number (other, (may, named), below) is above fits =
    let same : other ≡ number = decimal_same other number (omega arith) (omega arith) (sym named ∙ is) in
    omega arith

-- what holds of all names holds of the one that was found
of_found : (P Q : Name → Type 0) (names : List Name) → All P names → Any Q names → (name : Name) × P name × Q name
of_found P Q names all any = (any.1, All-contains P names any.1 all (any.0, any.2, any.3), any.4)

none_foreign : (names : List Name) (greatest : ℕ) (name : Name) → greatest < 2 ^ 32 → IsGreatest IsMarkOf names greatest → IsLeastOther IsMarkOf names name → ⊥
none_foreign names greatest name fits all least =
    let (other, (n, (may, named), below), is) = of_found (IsUpTo greatest) (λ x. x ≡ name) names all.numbers least.there in
    least.foreign n (may, sym is ∙ named)

pub spent_or_next : (marks : Option (List Name)) → AreSpent marks → HaveNext marks → ⊥
spent_or_next None spent next = spent
spent_or_next (Some names) spent (greatest, all, less) = elim spent.reached [
  | inl none ↦ omega (arith, none.1)
  | inr there ↦ (let (name, up, is) = of_found (IsUpTo greatest) (λ x. IsMarkOf x (2 ^ 32 - 1)) names all.numbers there in above_greatest name greatest (2 ^ 32 - 1) up is.1 less (omega arith))
]

pub spent_or_damaged : (marks : Option (List Name)) (name : Name) → AreSpent marks → AreDamagedAt name marks → ⊥
spent_or_damaged None name spent damaged = spent
spent_or_damaged (Some names) name spent damaged = none_foreign names (2 ^ 32 - 1) name (omega arith) spent damaged

pub next_or_damaged : (marks : Option (List Name)) (name : Name) → HaveNext marks → AreDamagedAt name marks → ⊥
next_or_damaged None name next damaged = next
next_or_damaged (Some names) name (greatest, all, less) damaged = none_foreign names greatest name (omega arith) all damaged

-- neither of two names is before the other, so they are one
tied : (a b : Name) (r s : Ordering) → slice_cmp nat_cmp a b ≡ r → slice_cmp nat_cmp b a ≡ s → r ≡ ordering_reverse s → r ≢ Greater → s ≢ Greater → a ≡ b
tied a b Equal s ab ba reverse r_not s_not = same_text a b (sym (texts_ties a b ∙ ap is_eq ab))
tied a b Greater s ab ba reverse r_not s_not = absurd (r_not refl)
tied a b Less Less ab ba reverse r_not s_not = absurd (cc)
tied a b Less Equal ab ba reverse r_not s_not = absurd (cc)
tied a b Less Greater ab ba reverse r_not s_not = absurd (s_not refl)

not_after : (names : List Name) (a b : Name) → IsLeastOther IsMarkOf names a → IsLeastOther IsMarkOf names b → slice_cmp nat_cmp a b ≢ Greater
not_after names a b first second =
    let (name, least, is) = of_found (λ other. HasNone IsMarkOf other → slice_cmp nat_cmp a other ≢ Greater) (λ x. x ≡ b) names first.least second.there in
    let P : Name → Type 0 = λ x. HasNone IsMarkOf x → slice_cmp nat_cmp a x ≢ Greater in
    subst P is least second.foreign

pub one_name : (marks : Option (List Name)) (a b : Name) → AreDamagedAt a marks → AreDamagedAt b marks → a ≡ b
one_name None a b first second = first ∙ sym second
one_name (Some names) a b first second =
    tied a b (slice_cmp nat_cmp a b) (slice_cmp nat_cmp b a) refl refl (nat_list_cmp_total.antisymm a b) (not_after names a b first second) (not_after names b a second first)
