-- Lists that are put in the order of a number.
use Rattle.std.proofs.Common.{◌≡◌, ◌⊎◌, inl, inr, ℕ, ◌<◌, nat_le, true, false, List, [], ◌∷◌, sym, subst, arith}
use Rattle.std.specs.List.{AllByRecursion}
use Rattle.std.proofs.lemmas.Bool.{cases_Bool, cond-true, cond-false}
use Rattle.std.proofs.lemmas.Bool.Decides.{nat_tests}
use Rattle.plain_file.proofs.Facts.{Among}
use Rattle.reader_laws.proofs.Gathered.Facts.{All-weaker}
use Rattle.mount_model.specs.Order.{put_by, ordered_by}

module _ {A : Type 0} (number : A → ℕ) where
  put_first : (a b : A) (bs : List A) → nat_le (number a) (number b) ≡ true → put_by number a (b ∷ bs) ≡ a ∷ b ∷ bs
  put_first a b bs h = cond-true (nat_le (number a) (number b)) (a ∷ b ∷ bs) (b ∷ put_by number a bs) h

  put_later : (a b : A) (bs : List A) → nat_le (number a) (number b) ≡ false → put_by number a (b ∷ bs) ≡ b ∷ put_by number a bs
  put_later a b bs h = cond-false (nat_le (number a) (number b)) (a ∷ b ∷ bs) (b ∷ put_by number a bs) h

  -- ---- the items are the same

  -- what holds of it and of the others holds of all
  pub all_put : (P : A → Type 0) (a : A) (bs : List A) → P a → AllByRecursion P bs → AllByRecursion P (put_by number a bs)
  all_put P a [] p all = (p, tt)
  all_put P a (b ∷ bs) p all = elim (cases_Bool (nat_le (number a) (number b))) as (λ _. AllByRecursion P (put_by number a (b ∷ bs))) [
    | inl first ↦ subst (AllByRecursion P) (sym (put_first a b bs first)) (p, all)
    | inr later ↦ subst (AllByRecursion P) (sym (put_later a b bs later)) (all.0, all_put P a bs p all.1)
  ]

  pub all_ordered : (P : A → Type 0) (xs : List A) → AllByRecursion P xs → AllByRecursion P (ordered_by number xs)
  all_ordered P [] all = tt
  all_ordered P (x ∷ xs) all = all_put P x (ordered_by number xs) all.0 (all_ordered P xs all.1)

  among_put : (a x : A) (bs : List A) → (x ≡ a) ⊎ Among x bs → Among x (put_by number a bs)
  among_put a x [] (inl e) = inl e
  among_put a x [] (inr h) = absurd h
  among_put a x (b ∷ bs) h = elim (cases_Bool (nat_le (number a) (number b))) as (λ _. Among x (put_by number a (b ∷ bs))) [
    | inl first ↦ subst (Among x) (sym (put_first a b bs first)) h
    | inr later ↦ subst (Among x) (sym (put_later a b bs later)) (deeper h (λ i. among_put a x bs i))
  ]
    where
      deeper : (x ≡ a) ⊎ Among x (b ∷ bs) → ((x ≡ a) ⊎ Among x bs → Among x (put_by number a bs)) → Among x (b ∷ put_by number a bs)
      deeper (inl e) put = inr (put (inl e))
      deeper (inr (inl e)) put = inl e
      deeper (inr (inr i)) put = inr (put (inr i))

  pub among_ordered : (x : A) (xs : List A) → Among x xs → Among x (ordered_by number xs)
  among_ordered x [] h = absurd h
  among_ordered x (y ∷ ys) (inl e) = among_put y x (ordered_by number ys) (inl e)
  among_ordered x (y ∷ ys) (inr h) = among_put y x (ordered_by number ys) (inr (among_ordered x ys h))

  put_among : (a x : A) (bs : List A) → Among x (put_by number a bs) → (x ≡ a) ⊎ Among x bs
  put_among a x [] h = h
  put_among a x (b ∷ bs) h = elim (cases_Bool (nat_le (number a) (number b))) as (λ _. (x ≡ a) ⊎ Among x (b ∷ bs)) [
    | inl first ↦ subst (Among x) (put_first a b bs first) h
    | inr later ↦ higher (subst (Among x) (put_later a b bs later) h) (λ i. put_among a x bs i)
  ]
    where
      higher : Among x (b ∷ put_by number a bs) → (Among x (put_by number a bs) → (x ≡ a) ⊎ Among x bs) → (x ≡ a) ⊎ Among x (b ∷ bs)
      higher (inl e) from = inr (inl e)
      higher (inr i) from = elim (from i) as (λ _. (x ≡ a) ⊎ Among x (b ∷ bs)) [ inl e ↦ inl e | inr j ↦ inr (inr j) ]

  pub ordered_among : (x : A) (xs : List A) → Among x (ordered_by number xs) → Among x xs
  ordered_among x [] h = h
  ordered_among x (y ∷ ys) h = of (put_among y x (ordered_by number ys) h) (λ i. ordered_among x ys i)
    where
      of : (x ≡ y) ⊎ Among x (ordered_by number ys) → (Among x (ordered_by number ys) → Among x ys) → Among x (y ∷ ys)
      of (inl e) back = inl e
      of (inr i) back = inr (back i)

  -- ---- numbers that differ

  -- no two have one number
  abbrev pub Differ : List A → Type 0
  Differ [] = Unit {0}
  Differ (x ∷ xs) = AllByRecursion (λ y. number x ≡ number y → ⊥) xs × Differ xs

  -- each has a smaller one than those behind it
  abbrev pub Rise : List A → Type 0
  Rise [] = Unit {0}
  Rise (x ∷ xs) = AllByRecursion (λ y. number x < number y) xs × Rise xs

  rise_put : (a : A) (bs : List A) → Rise bs → AllByRecursion (λ b. number a ≡ number b → ⊥) bs → Rise (put_by number a bs)
  rise_put a [] rise others = (tt, tt)
  rise_put a (b ∷ bs) rise others = elim (cases_Bool (nat_le (number a) (number b))) as (λ _. Rise (put_by number a (b ∷ bs))) [
    | inl first ↦
        let less : number a < number b = below (number a) (number b) first others.0 in
        subst Rise (sym (put_first a b bs first)) ((less, All-weaker (λ y. number b < number y) (λ y. number a < number y) bs (λ y l. omega (arith, l, less)) rise.0), rise)
    | inr later ↦
        let less : number b < number a = above (number a) (number b) later in
        subst Rise (sym (put_later a b bs later)) (all_put (λ y. number b < number y) a bs less rise.0, rise_put a bs rise.1 others.1)
  ]
    where
      below : (k n : ℕ) → nat_le k n ≡ true → (k ≡ n → ⊥) → k < n
      below k n h other = grind (arith, nat_tests)

      above : (k n : ℕ) → nat_le k n ≡ false → n < k
      above k n h = grind (arith, nat_tests)

  -- in their order they rise
  pub rise_ordered : (xs : List A) → Differ xs → Rise (ordered_by number xs)
  rise_ordered [] differ = tt
  rise_ordered (x ∷ xs) differ = rise_put x (ordered_by number xs) (rise_ordered xs differ.1) (all_ordered (λ y. number x ≡ number y → ⊥) xs differ.0)

-- put in the order of another number, they differ as before
module _ {A : Type 0} (number other : A → ℕ) where
  differ_put : (a : A) (bs : List A) → AllByRecursion (λ b. number a ≡ number b → ⊥) bs → Differ number bs → Differ number (put_by other a bs)
  differ_put a [] apart differ = (tt, tt)
  differ_put a (b ∷ bs) apart differ = elim (cases_Bool (nat_le (other a) (other b))) as (λ _. Differ number (put_by other a (b ∷ bs))) [
    | inl first ↦ subst (Differ number) (sym (cond-true (nat_le (other a) (other b)) (a ∷ b ∷ bs) (b ∷ put_by other a bs) first)) (apart, differ)
    | inr later ↦ subst (Differ number) (sym (cond-false (nat_le (other a) (other b)) (a ∷ b ∷ bs) (b ∷ put_by other a bs) later))
        (all_put other (λ y. number b ≡ number y → ⊥) a bs (λ e. apart.0 (sym e)) differ.0, differ_put a bs apart.1 differ.1)
  ]

  pub differ_ordered : (xs : List A) → Differ number xs → Differ number (ordered_by other xs)
  differ_ordered [] differ = tt
  differ_ordered (x ∷ xs) differ = differ_put x (ordered_by other xs) (all_ordered other (λ y. number x ≡ number y → ⊥) xs differ.0) (differ_ordered xs differ.1)
