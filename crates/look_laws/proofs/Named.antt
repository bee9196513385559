-- What names that were listed tell.
use Rattle.std.proofs.Common.{◌≡◌, inl, inr, ℕ, List, [], ◌∷◌, ◌++◌, Option, Some, None, Result, Ok, Err, refl, sym, ap, ◌∙◌, subst, false, append_assoc}
use Rattle.std.specs.List.{AllByRecursion}
use Rattle.std.proofs.lemmas.List.{append-nil}
use Rattle.plain_file.proofs.Facts.{Among}
use Rattle.store_laws.specs.Differ.{is_listed, NamesDiffer}
use Rattle.mount_model.specs.declared.stuck.Stuck.{Stuck}
use Rattle.mount_model.specs.Paths.{Name}
use Rattle.mount_model.specs.FlowListed.{file_in, known}
use Rattle.mount_model.specs.FlowReplies.{damage}
use Rattle.reader_laws.proofs.Gathered.Facts.{among_listed}
use Rattle.look_laws.proofs.Orders.{Differ}

-- each of these is what one of the names tells, in their order
abbrev pub AreOf : {A : Type 0} → (Name → Option A) → List Name → List A → Type 0
AreOf item [] xs = xs ≡ []
AreOf {A} item (name ∷ names) xs = (x : A) × (rest : List A) × (item name ≡ Some x) × (xs ≡ x ∷ rest) × AreOf item names rest

module _ {A : Type 0} (item : Name → Option A) where
  -- What was told name by name, behind those so far.
  record Told (names : List Name) (sofar all : List A) : Type 0 where
    pub xs : List A
    pub is : all ≡ sofar ++ xs
    pub are : AreOf item names xs

  known_so : (folder name : Name) (o : Option A) (next : A → Result (List A) Stuck) (all : List A) → known folder name o next ≡ Ok all → (x : A) × (o ≡ Some x) × (next x ≡ Ok all)
  known_so folder name None next all e = (let clash : ◌≡◌ {A = Result (List A) Stuck} (Err (damage (file_in folder name) 0)) (Ok all) = e in absurd cc)
  known_so folder name (Some x) next all e = (x, refl, e)

  told_so : (folder : Name) (tells : List Name → List A → Result (List A) Stuck) → ((sofar : List A) → tells [] sofar ≡ Ok sofar) → ((name : Name) (names : List Name) (sofar : List A) → tells (name ∷ names) sofar ≡ known folder name (item name) (λ x. tells names (sofar ++ x ∷ [])))
      → (names : List Name) (sofar all : List A) → tells names sofar ≡ Ok all → Told names sofar all
  told_so folder tells ends goes [] sofar all made =
      let both : ◌≡◌ {A = Result (List A) Stuck} (Ok sofar) (Ok all) = sym (ends sofar) ∙ made in
      let same : sofar ≡ all = cc in
      record { xs = []; is = sym same ∙ sym (append-nil sofar); are = refl }
  told_so folder tells ends goes (name ∷ names) sofar all made =
      let k = known_so folder name (item name) (λ x. tells names (sofar ++ x ∷ [])) all (sym (goes name names sofar) ∙ made) in
      let t = told_so folder tells ends goes names (sofar ++ k.0 ∷ []) all k.2 in
      record { xs = k.0 ∷ t.xs; is = t.is ∙ append_assoc sofar (k.0 ∷ []) t.xs; are = (k.0, t.xs, k.1, refl, t.are) }

  -- where none was told before, all are those of the names
  pub all_told : (folder : Name) (tells : List Name → List A → Result (List A) Stuck) → ((sofar : List A) → tells [] sofar ≡ Ok sofar) → ((name : Name) (names : List Name) (sofar : List A) → tells (name ∷ names) sofar ≡ known folder name (item name) (λ x. tells names (sofar ++ x ∷ [])))
      → (names : List Name) (all : List A) → tells names [] ≡ Ok all → AreOf item names all
  all_told folder tells ends goes names all made = let t = told_so folder tells ends goes names [] all made in subst (AreOf item names) (sym t.is) t.are

  -- ---- members

  -- each is told by one of the names
  pub name_of : (names : List Name) (xs : List A) → AreOf item names xs → (x : A) → Among x xs → (name : Name) × Among name names × (item name ≡ Some x)
  name_of [] xs are x a = absurd (subst (Among x) are a)
  name_of (name ∷ names) xs are x a = of (subst (Among x) are.3 a) (λ b. name_of names are.1 are.4 x b)
    where
      of : Among x (are.0 ∷ are.1) → (Among x are.1 → (n : Name) × Among n names × (item n ≡ Some x)) → (n : Name) × Among n (name ∷ names) × (item n ≡ Some x)
      of (inl same) later = (name, inl refl, are.2 ∙ ap (λ (y : A). Some y) (sym same))
      of (inr b) later = let r = later b in (r.0, inr r.1, r.2)

  -- what one of the names tells is one of them
  pub told_by_name : (names : List Name) (xs : List A) → AreOf item names xs → (name : Name) → Among name names → (x : A) → item name ≡ Some x → Among x xs
  told_by_name [] xs are name a x is = absurd a
  told_by_name (first ∷ names) xs are name a x is = subst (Among x) (sym are.3) (of a (λ b. told_by_name names are.1 are.4 name b x is))
    where
      of : Among name (first ∷ names) → (Among name names → Among x are.1) → Among x (are.0 ∷ are.1)
      of (inl same) later = inl (let both : Some x ≡ Some are.0 = sym is ∙ ap item same ∙ are.2 in cc)
      of (inr b) later = inr (later b)

  -- ---- numbers that differ

  not_listed : (name : Name) (names : List Name) → is_listed name names ≡ false → Among name names → ⊥
  not_listed name names none a = let listed = among_listed name names a in absurd (cc)

  members : (P : A → Type 0) (xs : List A) → ((x : A) → Among x xs → P x) → AllByRecursion P xs
  members P [] f = tt
  members P (x ∷ xs) f = (f x (inl refl), members P xs (λ y a. f y (inr a)))

  -- names that differ tell items whose numbers differ, where the number tells the name
  pub differ_so : (number : A → ℕ) (all names : List Name) (xs : List A) → ((name : Name) → Among name names → Among name all) → NamesDiffer names → AreOf item names xs
      → ((name other : Name) (x y : A) → Among name all → Among other all → item name ≡ Some x → item other ≡ Some y → number x ≡ number y → name ≡ other) → Differ number xs
  differ_so number all [] xs within differ are one = subst (Differ number) (sym are) tt
  differ_so number all (name ∷ names) xs within differ are one = subst (Differ number) (sym are.3) (
    members (λ y. number are.0 ≡ number y → ⊥) are.1 (λ y a same.
        let n = name_of names are.1 are.4 y a in
        not_listed name names differ.0 (subst (λ k. Among k names) (sym (one name n.0 are.0 y (within name (inl refl)) (within n.0 (inr n.1)) are.2 n.2 same)) n.1)),
    differ_so number all names are.1 (λ n a. within n (inr a)) differ.1 are.4 one,
  )
