-- Names that rise strictly: none stands twice, and their members determine them.
use Rattle.std.proofs.Common.{◌≡◌, true, false, ◌||◌, List, [], ◌∷◌, refl, ap, sym, ◌∙◌, inl, inr, subst}
use Rattle.std.specs.Ordering.{nat_cmp, ordering_reverse}
use Rattle.std.specs.declared.cmp.Ordering.TheVariants.{Less, Greater}
use Rattle.std.specs.Cmp.Lexicographic.{slice_cmp, nat_list_cmp_total}
use Rattle.std.specs.List.{AllByRecursion}
use Rattle.std.specs.List.Sorted.{IsStrictlySortedBy}
use Rattle.store_api.specs.declared.tree.Room.{Room}
use Rattle.store_api.specs.Step.{Name}
use Rattle.store_api.specs.Names.{same_name}
use Rattle.store_api.specs.Room.{listing}
use Rattle.store_laws.specs.Differ.{is_listed, NamesDiffer}
use Rattle.store_laws.specs.There.{AreInOrder, AreNamesOf}
use Rattle.store_laws.proofs.Names.Naming.{name_eq, name_refl, name_other, name_cases}
use Rattle.store_laws.proofs.Looks.Listings.{listing_names}

-- what holds of each name holds of one that is listed
pub all_listed : (P : Name → Type 0) (names : List Name) (name : Name) → AllByRecursion P names → is_listed name names ≡ true → P name
all_listed P [] name all e = absurd (cc)
all_listed P (x ∷ xs) name all e = elim (same_name x name) as (λ b. same_name x name ≡ b → (b || is_listed name xs) ≡ true → P name) [
  | true ↦ λ same _. subst P (name_eq x name same) all.0
  | false ↦ λ other rest. all_listed P xs name all.1 rest
] refl e

not_below_itself : (a : Name) → slice_cmp nat_cmp a a ≡ Less → ⊥
not_below_itself a e = let turned : slice_cmp nat_cmp a a ≡ Greater = nat_list_cmp_total.antisymm a a ∙ ap ordering_reverse e in absurd (cc)

not_both : (a b : Name) → slice_cmp nat_cmp a b ≡ Less → slice_cmp nat_cmp b a ≡ Less → ⊥
not_both a b e f = not_below_itself a (nat_list_cmp_total.trans a b a e f)

-- a name that is below all isn't listed
unlisted : (name : Name) (names : List Name) → AllByRecursion (λ y. slice_cmp nat_cmp name y ≡ Less) names → is_listed name names ≡ false
unlisted name names all = elim (is_listed name names) as (λ b. is_listed name names ≡ b → b ≡ false) [
  | true ↦ λ e. absurd (not_below_itself name (all_listed (λ y. slice_cmp nat_cmp name y ≡ Less) names name all e))
  | false ↦ λ e. refl
] refl

-- none stands twice
pub ordered_differ : (names : List Name) → AreInOrder names → NamesDiffer names
unfolding IsStrictlySortedBy
ordered_differ [] o = tt
ordered_differ (x ∷ xs) o = (unlisted x xs o.0, ordered_differ xs o.1)

later : (a x : Name) (xs : List Name) → (x ≡ a → ⊥) → is_listed a (x ∷ xs) ≡ true → is_listed a xs ≡ true
later a x xs apart e = elim (same_name x a) as (λ b. same_name x a ≡ b → (b || is_listed a xs) ≡ true → is_listed a xs ≡ true) [
  | true ↦ λ same _. absurd (apart (name_eq x a same))
  | false ↦ λ other rest. rest
] refl e

first_listed : (x : Name) (xs : List Name) → is_listed x (x ∷ xs) ≡ true
first_listed x xs = rw (name_refl x) refl

-- the first of two lists of the same members
same_first : (x y : Name) (xs ys : List Name) → AllByRecursion (λ z. slice_cmp nat_cmp x z ≡ Less) xs → AllByRecursion (λ z. slice_cmp nat_cmp y z ≡ Less) ys → ((name : Name) → is_listed name (x ∷ xs) ≡ is_listed name (y ∷ ys)) → x ≡ y
same_first x y xs ys below_x below_y same = elim (name_cases x y) as (λ _. x ≡ y) [
  | inl e ↦ e
  | inr apart ↦
      let x_later : is_listed x ys ≡ true = later x y ys (λ e. apart (sym e)) (sym (same x) ∙ first_listed x xs) in
      let y_later : is_listed y xs ≡ true = later y x xs apart (same y ∙ first_listed y ys) in
      absurd (not_both x y (all_listed (λ z. slice_cmp nat_cmp x z ≡ Less) xs y below_x y_later) (all_listed (λ z. slice_cmp nat_cmp y z ≡ Less) ys x below_y x_later))
]

same_rest : (x : Name) (xs ys : List Name) → is_listed x xs ≡ false → is_listed x ys ≡ false → ((name : Name) → is_listed name (x ∷ xs) ≡ is_listed name (x ∷ ys)) → (name : Name) → is_listed name xs ≡ is_listed name ys
same_rest x xs ys none_x none_y same name = elim (name_cases x name) as (λ _. is_listed name xs ≡ is_listed name ys) [
  | inl e ↦ subst (λ z. is_listed z xs ≡ is_listed z ys) e (none_x ∙ sym none_y)
  | inr apart ↦ let other : same_name x name ≡ false = name_other x name apart in rw other at (same name)
]

-- two lists of the same names in order are one
pub ordered_one : (a b : List Name) → AreInOrder a → AreInOrder b → ((name : Name) → is_listed name a ≡ is_listed name b) → a ≡ b
unfolding IsStrictlySortedBy
ordered_one [] [] o p same = refl
ordered_one [] (y ∷ ys) o p same = let e : false ≡ is_listed y (y ∷ ys) = same y in let f = first_listed y ys in absurd (cc)
ordered_one (x ∷ xs) [] o p same = let e : is_listed x (x ∷ xs) ≡ false = same x in let f = first_listed x xs in absurd (cc)
ordered_one (x ∷ xs) (y ∷ ys) o p same =
    let first : x ≡ y = same_first x y xs ys o.0 p.0 same in
    let as_first : (name : Name) → is_listed name (x ∷ xs) ≡ is_listed name (x ∷ ys) = λ name. same name ∙ ap (λ z. same_name z name || is_listed name ys) (sym first) in
    let none_y : is_listed x ys ≡ false = subst (λ z. is_listed z ys ≡ false) (sym first) (unlisted y ys p.0) in
    ap (λ z. z ∷ xs) first ∙ ap (λ l. y ∷ l) (ordered_one xs ys o.1 p.1 (same_rest x xs ys (unlisted x xs o.0) none_y as_first))

-- the names of a folder's entries are its listing
pub names_are_listing : (room : Room) (folder : Name) (names : List Name) → AreNamesOf room folder names → names ≡ listing room folder
names_are_listing room folder names are =
    let list = listing_names room folder in
    ordered_one names (listing room folder) are.ordered list.ordered (λ name. are.exactly name ∙ sym (list.exactly name))

pub names_are_one : (room : Room) (folder : Name) (names others : List Name) → AreNamesOf room folder names → AreNamesOf room folder others → names ≡ others
names_are_one room folder names others a b = names_are_listing room folder names a ∙ sym (names_are_listing room folder others b)
