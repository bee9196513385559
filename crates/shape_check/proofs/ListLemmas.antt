-- Lists of paths, and loops over them.
use Rattle.std.proofs.Common.{◌≡◌, ℕ, zero, suc, ◌+◌, ◌≤◌, ◌⊎◌, inl, inr, Bool, true, false, ◌||◌, List, [], ◌∷◌, ◌++◌, length, take, map, Some, refl, ap, sym, ◌∙◌, subst, arith}
use Rattle.std.specs.Prelude.{slice_get}
use Rattle.std.proofs.lemmas.List.{take_all}
use Rattle.plfs_types.specs.declared.names.Path.{Path}
use Rattle.store_api.specs.declared.tree.Room.{Room}
use Rattle.store_api.specs.declared.tree.Tree.{Tree}
use Rattle.store_api.specs.Acts.{Stored}
use Rattle.store_api.specs.Names.{same_name}
use Rattle.store_laws.specs.Differ.{is_listed}
use Rattle.store_laws.proofs.Facts.{name_eq, name_refl}
use Rattle.mount_model.specs.Paths.{Name}
use Rattle.shape_check.specs.declared.files.Place.{Place}
use Rattle.shape_check.specs.Files.{OfPlace}
use Rattle.shape_check.specs.Shape.{in_folder, IsOneOf, EachAt}

pub in_front : (front rest : List Path) (path : Path) → IsOneOf front path → IsOneOf (front ++ rest) path
in_front [] rest path one = absurd one
in_front (first ∷ front) rest path (inl same) = inl same
in_front (first ∷ front) rest path (inr later) = inr (in_front front rest path later)

pub behind : (front rest : List Path) (path : Path) → IsOneOf rest path → IsOneOf (front ++ rest) path
behind [] rest path one = one
behind (first ∷ front) rest path one = inr (behind front rest path one)

pub one_of_both : (front rest : List Path) (path : Path) → IsOneOf (front ++ rest) path → IsOneOf front path ⊎ IsOneOf rest path
one_of_both [] rest path one = inr one
one_of_both (first ∷ front) rest path (inl same) = inl (inl same)
one_of_both (first ∷ front) rest path (inr later) = elim (one_of_both front rest path later) [
  | inl before ↦ inl (inr before)
  | inr behind_it ↦ inr behind_it
]

-- the paths of these names in the folder
pub name_has_path : (folder : Name) (names : List Name) (name : Name) → is_listed name names ≡ true → IsOneOf (map (in_folder folder) names) (in_folder folder name)
name_has_path folder [] name e = absurd (cc)
name_has_path folder (x ∷ xs) name e = elim (same_name x name) as (λ b. same_name x name ≡ b → (b || is_listed name xs) ≡ true → IsOneOf (map (in_folder folder) (x ∷ xs)) (in_folder folder name)) [
  | true ↦ λ same _. inl (ap (in_folder folder) (name_eq x name same))
  | false ↦ λ _ rest. inr (name_has_path folder xs name rest)
] refl e

pub path_has_name : (folder : Name) (names : List Name) (path : Path) → IsOneOf (map (in_folder folder) names) path → (name : Name) × (path ≡ in_folder folder name) × (is_listed name names ≡ true)
path_has_name folder [] path one = absurd one
path_has_name folder (x ∷ xs) path (inl same) = (x, sym same, ap (λ b. b || is_listed x xs) (name_refl x))
path_has_name folder (x ∷ xs) path (inr later) =
    let has = path_has_name folder xs path later in
    (has.0, has.1, ap (λ b. same_name x has.0 || b) has.2 ∙ either (same_name x has.0))
  where
    either : (b : Bool) → (b || true) ≡ true
    either true = refl
    either false = refl

-- ---- the first so many

pub one_more : (paths : List Path) (i : ℕ) (path other : Path) → slice_get paths i ≡ Some path → IsOneOf (take (suc i) paths) other → IsOneOf (take i paths) other ⊎ (path ≡ other)
one_more [] i path other at one = absurd one
one_more (x ∷ xs) zero path other at (inl same) = let first : x ≡ path = cc in inr (sym first ∙ same)
one_more (x ∷ xs) zero path other at (inr later) = absurd later
one_more (x ∷ xs) (suc i) path other at (inl same) = inl (inl same)
one_more (x ∷ xs) (suc i) path other at (inr later) = elim (one_more xs i path other at later) [
  | inl before ↦ inl (inr before)
  | inr here ↦ inr here
]

pub each_none : (Q : Path → Tree → Room → Type 0) (place : Place) (old : Stored) (paths : List Path) → OfPlace (EachAt Q (take 0 paths)) place old
each_none Q place old paths = λ tree seen at path one. absurd one

pub each_more : (Q : Path → Tree → Room → Type 0) (place : Place) (old : Stored) (paths : List Path) (i : ℕ) (path : Path) → slice_get paths i ≡ Some path
    → OfPlace (EachAt Q (take i paths)) place old → OfPlace (Q path) place old → OfPlace (EachAt Q (take (i + 1) paths)) place old
each_more Q place old paths i path at_i before this = λ tree seen at other one. (
    let next : i + 1 ≡ suc i = omega arith in
    elim (one_more paths i path other at_i (subst (λ (n : ℕ). IsOneOf (take n paths) other) next one)) [
      | inl earlier ↦ before tree seen at other earlier
      | inr same ↦ subst (λ (p : Path). Q p tree at.room) same (this tree seen at)
    ])

pub each_all : (Q : Path → Tree → Room → Type 0) (place : Place) (old : Stored) (paths : List Path) (i : ℕ) → length paths ≤ i → OfPlace (EachAt Q (take i paths)) place old → OfPlace (EachAt Q paths) place old
each_all Q place old paths i past all = subst (λ (l : List Path). OfPlace (EachAt Q l) place old) (take_all i paths past) all
