-- Tests that say what rules say, and the first item that breaks a rule of lists.
use Rattle.std.proofs.Common.{◌≡◌, ◌<◌, ◌≤◌, ◌+◌, ◌⊎◌, inl, inr, ℕ, zero, suc, nat_le, Bool, true, false, if◌then◌else◌, List, [], ◌∷◌, length, take, Option, None, Some, refl, ap, ◌∙◌, sym, subst, arith}
use Rattle.std.specs.Bool.{Decides}
use Rattle.std.proofs.lemmas.Bool.{cases_lt, leb-true, le-leb, cond-true, cond-false}
use Rattle.std.proofs.lemmas.List.{take-take, take_all}
use Rattle.flat_format.specs.Bad.{BreaksAt}
use Rattle.mount_model.specs.Names.{or_else, find_below}
use Rattle.index_reader.specs.Searching.{same_bytes}
use Rattle.index_reader.specs.Breaks.{first_break}
use Rattle.index_reader.proofs.Containers.Searching.{same_bytes-itself, same_bytes-eq, none_below}

-- ---- tests

pub le_decides : (a b : ℕ) → Decides (nat_le a b) (a ≤ b)
le_decides a b = (leb-true a b, le-leb a b)

pub bytes_decide : (xs ys : List ℕ) → Decides (same_bytes xs ys) (xs ≡ ys)
bytes_decide xs ys = (same_bytes-eq xs ys, λ e. subst (λ (zs : List ℕ). same_bytes xs zs ≡ true) e (same_bytes-itself xs))

pub broken : {P : Type 0} (x : Bool) → Decides x P → (P → ⊥) → x ≡ false
broken true d h = absurd (h (d.0 refl))
broken false d h = refl

pub not_decides : {P : Type 0} (x : Bool) → Decides x P → Decides (if x then false else true) (P → ⊥)
not_decides true d = (λ h. absurd (let clash : false ≡ true = h in cc), λ n. absurd (n (d.0 refl)))
not_decides false d = (λ h p. absurd (let clash : false ≡ true = d.1 p in cc), λ n. refl)

pub or_decides : {P Q : Type 0} (x y : Bool) → Decides x P → Decides y Q → Decides (if x then true else y) (P ⊎ Q)
or_decides true y d e = (λ h. inl (d.0 refl), λ s. refl)
or_decides {P} {Q} false y d e = (
  λ h. inr (e.0 h),
  λ s. elim s as (λ _. y ≡ true) [
    | inl p ↦ absurd (let clash : false ≡ true = d.1 p in cc)
    | inr q ↦ e.1 q
  ],
)

-- ---- the first that is found

none_all : {X : Type 0} (f : ℕ → Option X) (n : ℕ) → ((j : ℕ) → j < n → f j ≡ None) → find_below f n ≡ None
none_all f zero h = refl
none_all f (suc n) h =
    let e : find_below f n ≡ None = none_all f n (λ j lt. h j (omega (arith, lt))) in
    ap (λ o. or_else o (f n)) e ∙ h n (omega arith)

pub first_found : {X : Type 0} (f : ℕ → Option X) (n i : ℕ) (x : X) → i < n → f i ≡ Some x → ((j : ℕ) → j < i → f j ≡ None) → find_below f n ≡ Some x
first_found f zero i x lt is before = absurd (omega arith)
first_found f (suc n) i x lt is before = elim (cases_lt i n) [
  | inl less ↦ ap (λ o. or_else o (f n)) (first_found f n i x less is before)
  | inr last ↦ (let at : i ≡ n = omega arith in
      let e : find_below f n ≡ None = none_all f n (λ j l. before j (omega (arith, l, at))) in
      ap (λ o. or_else o (f n)) e ∙ ap f (sym at) ∙ is)
]

-- ---- the first break

kept : (x : Bool) (n : ℕ) → (if x then None else Some n) ≡ None → x ≡ true
kept true n h = refl
kept false n h = absurd (cc)

module _ {A : Type 0} (keeps : List A → Bool) (V : List A → Type 0) (decides : (xs : List A) → Decides (keeps xs) (V xs)) where
  none_at : (xs : List A) (j : ℕ) → V (take (j + 1) xs) → (if keeps (take (j + 1) xs) then None else Some j) ≡ None
  none_at xs j v = cond-true (keeps (take (j + 1) xs)) None (Some j) ((decides (take (j + 1) xs)).1 v)

  pub unbroken : (xs : List A) → ((n : ℕ) → V (take n xs)) → first_break keeps xs ≡ None
  unbroken xs firsts = none_all (λ index. if keeps (take (index + 1) xs) then None else Some index) (length xs) (λ j lt. none_at xs j (firsts (j + 1)))

  pub breaks_there : (xs : List A) (i : ℕ) → ((n : ℕ) (ys : List A) → V ys → V (take n ys)) → BreaksAt V xs i → first_break keeps xs ≡ Some i
  breaks_there xs i firsts b = first_found (λ index. if keeps (take (index + 1) xs) then None else Some index) (length xs) i i b.there
      (cond-false (keeps (take (i + 1) xs)) None (Some i) (broken (keeps (take (i + 1) xs)) (decides (take (i + 1) xs)) b.broken))
      (λ j lt. none_at xs j (subst V (take-take (j + 1) i xs (omega (arith, lt))) (firsts (j + 1) (take i xs) b.before)))

  pub unbroken_means : (xs : List A) → V [] → first_break keeps xs ≡ None → V xs
  unbroken_means [] v none = v
  unbroken_means (x ∷ xs) v none =
      let all : List A = x ∷ xs in
      let at : (if keeps (take (length xs + 1) all) then None else Some (length xs)) ≡ None = none_below (λ index. if keeps (take (index + 1) all) then None else Some index) (length all) (length xs) none (omega arith) in
      let whole : take (length xs + 1) all ≡ all = take_all (length xs + 1) all (omega arith) in
      subst V whole ((decides (take (length xs + 1) all)).0 (kept (keeps (take (length xs + 1) all)) (length xs) at))
