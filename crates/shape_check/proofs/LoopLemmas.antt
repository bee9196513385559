-- Loops over names, each of which is checked.
use Rattle.std.proofs.Common.{◌≡◌, ℕ, zero, suc, ◌+◌, ◌≤◌, ◌<◌, ◌⊎◌, inl, inr, true, false, ◌||◌, List, [], ◌∷◌, length, take, Some, refl, ap, sym, ◌∙◌, subst, arith}
use Rattle.std.specs.Prelude.{slice_get, get_or, IfErr, Result, Ok, Err}
use Rattle.std.proofs.lemmas.Option.{slice_get_read}
use Rattle.std.proofs.lemmas.List.{take_all}
use Rattle.plfs_types.specs.declared.names.Path.{Path}
use Rattle.store_api.specs.declared.tree.Room.{Room}
use Rattle.store_api.specs.declared.tree.Tree.{Tree}
use Rattle.store_api.specs.Acts.{Stored}
use Rattle.store_api.specs.Names.{same_name}
use Rattle.store_api.specs.Step.{Name}
use Rattle.store_laws.specs.Differ.{is_listed}
use Rattle.store_laws.proofs.Facts.{name_eq}
use Rattle.shape_check.specs.declared.files.Place.{Place}
use Rattle.shape_check.specs.declared.finding.Finding.{Finding}
use Rattle.shape_check.specs.declared.finding.Finding.TheVariants.{NoMemory}
use Rattle.shape_check.specs.Files.{OfPlace}
use Rattle.shape_check.specs.Places.{OfMarks, Each}
use Rattle.shape_check.specs.Rightness.{Fails}
use Rattle.shape_check.specs.Seeing.{IsLookedAt}
use Rattle.shape_check.proofs.Seen.{seen_on, risen_on}

pub fails_on : (P : Tree → Type 0) (old mid new : Stored) (finding : Finding) → IsLookedAt old mid → Fails P mid new finding → Fails P old new finding
fails_on P old mid new finding looked f = record {
  cause = λ e. risen_on old.faults mid.faults new.faults looked.counted (f.cause e);
  right = λ tree seen has. f.right tree (seen_on old mid tree looked seen) has;
}

pub marks_on : (Q : Room → Type 0) (number : ℕ) (old mid : Stored) → IsLookedAt old mid → OfMarks Q number mid → OfMarks Q number old
marks_on Q number old mid looked q = λ tree seen place. q tree (seen_on old mid tree looked seen) place

pub looked_same : (stored : Stored) → IsLookedAt stored stored
looked_same stored = record { same = refl; counted = omega arith }

pub listed_more : (names : List Name) (i : ℕ) (name other : Name) → slice_get names i ≡ Some name → is_listed other (take (suc i) names) ≡ true → (is_listed other (take i names) ≡ true) ⊎ (name ≡ other)
listed_more [] i name other at e = absurd (cc)
listed_more (x ∷ xs) zero name other at e = elim (same_name x other) as (λ b. same_name x other ≡ b → (b || false) ≡ true → (false ≡ true) ⊎ (name ≡ other)) [
  | true ↦ λ same _. inr (let first : x ≡ name = cc in sym first ∙ name_eq x other same)
  | false ↦ λ _ none. inl none
] refl e
listed_more (x ∷ xs) (suc i) name other at e = elim (same_name x other) as (λ b. same_name x other ≡ b → (b || is_listed other (take (suc i) xs)) ≡ true → ((b || is_listed other (take i xs)) ≡ true) ⊎ (name ≡ other)) [
  | true ↦ λ _ _. inl refl
  | false ↦ λ _ rest. listed_more xs i name other at rest
] refl e

pub none_yet : (Q : Name → Room → Type 0) (number : ℕ) (old : Stored) (names : List Name) → OfMarks (Each Q (take 0 names)) number old
none_yet Q number old names = λ tree seen place name e. absurd (cc)

pub one_more : (Q : Name → Room → Type 0) (number : ℕ) (old : Stored) (names : List Name) (i : ℕ) (name : Name) → slice_get names i ≡ Some name
    → OfMarks (Each Q (take i names)) number old → OfMarks (Q name) number old → OfMarks (Each Q (take (i + 1) names)) number old
one_more Q number old names i name at before this = λ tree seen place other e. (
    let next : i + 1 ≡ suc i = omega arith in
    elim (listed_more names i name other at (ap (λ (n : ℕ). is_listed other (take n names)) (sym next) ∙ e)) [
      | inl earlier ↦ before tree seen place other earlier
      | inr same ↦ subst (λ (n : Name). Q n place.room) same (this tree seen place)
    ])

pub all_of_them : (Q : Name → Room → Type 0) (number : ℕ) (old : Stored) (names : List Name) (i : ℕ) → length names ≤ i → OfMarks (Each Q (take i names)) number old → OfMarks (Each Q names) number old
all_of_them Q number old names i past all = subst (λ (l : List Name). OfMarks (Each Q l) number old) (take_all i names past) all

-- the name at hand
pub at_hand : (names : List Name) (i : ℕ) (name : Name) → i < length names → name ≡ get_or names i name → slice_get names i ≡ Some name
at_hand names i name less is = slice_get_read names (length names) i name refl less is

-- what fails later fails
pub later_fails : (P : Tree → Type 0) (old mid new : Stored) (result : Result Unit Finding) → IsLookedAt old mid → IfErr result (Fails P mid new) → IfErr result (Fails P old new)
later_fails P old mid new (Ok done) looked f = tt
later_fails P old mid new (Err finding) looked f = fails_on P old mid new finding looked f

-- ---- files of a container

pub place_on : (Q : Tree → Room → Type 0) (place : Place) (old mid : Stored) → IsLookedAt old mid → OfPlace Q place mid → OfPlace Q place old
place_on Q place old mid looked q = λ tree seen at. q tree (seen_on old mid tree looked seen) at

-- the path at hand
pub path_at_hand : (paths : List Path) (i : ℕ) (path : Path) → i < length paths → path ≡ get_or paths i path → slice_get paths i ≡ Some path
path_at_hand paths i path less is = slice_get_read paths (length paths) i path refl less is

-- want of memory is no fault
pub no_memory : (P : Tree → Type 0) (old new : Stored) (finding : Finding) → finding ≡ NoMemory → Fails P old new finding
no_memory P old new finding is = subst (λ (f : Finding). Fails P old new f) (sym is) (record { cause = λ e. absurd (cc); right = λ tree seen has. tt })
