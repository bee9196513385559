-- Folders of a ROOT, by the paths that are told of them.
use Rattle.std.proofs.Common.{◌≡◌, ◌≢◌, ◌⊎◌, ◌<◌, ◌+◌, ◌++◌, inl, inr, ℕ, List, Bool, true, false, Option, Some, None, Ok, Err, refl, sym, subst, arith, codes}
use Rattle.std.proofs.lemmas.Bool.{cases_lt}
use Rattle.std.specs.Prelude.{IfSome}
use Rattle.std.specs.IoError.{error_kind}
use Rattle.std.specs.declared.io.Error.{Error}
use Rattle.std.specs.declared.io.ErrorKind.TheVariants as kind
use Rattle.system_edge.specs.declared.lock.Denial.{Denial}
use Rattle.system_edge.specs.declared.lock.Denial.TheVariants as denial
use Rattle.system_edge.specs.Roots.{AreFreeBefore, AreMarkedOnce, HasMarks, HasNoMarks, HasNoPath, IsAloneDenial, IsDeniedNamed, IsFree, IsFreeFolder, IsFreeNamed, IsRightDenial, IsUnseenItem, Named, Seen, folder_at}

pub free_so : (named : Option Named) (told : List ℕ → Option Seen) (path : List ℕ) → IfSome named (λ seen. seen ≡ Ok path) → IsFree told path → IfSome named (IsFreeNamed told)
free_so None told path given free = tt
free_so (Some seen) told path given free = subst (λ n. IsFreeNamed told n) (sym given) free

pub pathless_so : (named : Option Named) (told : List ℕ → Option Seen) (error : Error) → IfSome named (HasNoPath error) → error_kind error ≢ kind.OutOfMemory → IfSome named (IsFreeNamed told)
pathless_so None told error given other = tt
pathless_so (Some seen) told error given other = elim given as (λ _. IsFreeNamed told seen) [
  | inl starved ↦ absurd (other starved)
  | inr is ↦ subst (λ n. IsFreeNamed told n) (sym is) tt
]

pub denied_named : (named : Option Named) (told : List ℕ → Option Seen) (path : List ℕ) (why : Denial) → IfSome named (λ seen. seen ≡ Ok path) → IsRightDenial told path why → IfSome named (IsDeniedNamed told why)
denied_named None told path why given right = tt
denied_named (Some seen) told path why given right = subst (λ n. IsDeniedNamed told why n) (sym given) right

pub starved_named : (named : Option Named) (told : List ℕ → Option Seen) → IfSome named (IsDeniedNamed told denial.NoMemory)
starved_named None told = tt
starved_named (Some (Ok path)) told = tt
starved_named (Some (Err error)) told = refl

-- ---- one folder more

pub free_on : (named : List ℕ → Option Named) (told : List ℕ → Option Seen) (folders : List (List ℕ)) (place : ℕ) → AreFreeBefore named told folders place → IsFreeFolder named told (folder_at folders place) → AreFreeBefore named told folders (place + 1)
free_on named told folders place before here k less = elim (cases_lt k place) as (λ _. IsFreeFolder named told (folder_at folders k)) [
  | inl below ↦ before k below
  | inr not_below ↦
      let same : place ≡ k = omega (arith, less, not_below) in
      subst (λ (n : ℕ). IsFreeFolder named told (folder_at folders n)) same here
]

-- what is known of the marks of the folders so far, where that is whether one of them has some
pub record MarkedSoFar (told : List ℕ → Option Seen) (folders : List (List ℕ)) (is : Bool) (place : ℕ) : Type 0 where
  pub once : AreMarkedOnce told folders place
  pub some : is ≡ true → (first : ℕ) × (first < place) × HasMarks told (folder_at folders first)
  pub none : is ≡ false → (first : ℕ) → first < place → HasNoMarks told (folder_at folders first)

once_on : (told : List ℕ → Option Seen) (folders : List (List ℕ)) (place : ℕ) → AreMarkedOnce told folders place → ((first : ℕ) → first < place → HasNoMarks told (folder_at folders first) ⊎ HasNoMarks told (folder_at folders place)) → AreMarkedOnce told folders (place + 1)
once_on told folders place once here first later before within = elim (cases_lt later place) as (λ _. HasNoMarks told (folder_at folders first) ⊎ HasNoMarks told (folder_at folders later)) [
  | inl below ↦ once first later before below
  | inr not_below ↦
      let same : place ≡ later = omega (arith, within, not_below) in
      let below : first < place = omega (arith, before, same) in
      subst (λ (n : ℕ). HasNoMarks told (folder_at folders first) ⊎ HasNoMarks told (folder_at folders n)) same (here first below)
]

-- the folder here has none
pub another_unmarked : (told : List ℕ → Option Seen) (folders : List (List ℕ)) (is : Bool) (place : ℕ) → MarkedSoFar told folders is place → HasNoMarks told (folder_at folders place) → MarkedSoFar told folders is (place + 1)
another_unmarked told folders is place far here =
    record {
      once = once_on told folders place far.once (λ first below. inr here);
      some = λ so. (let it = far.some so in (it.0, omega (arith, it.1), it.2));
      none = λ so first less. elim (cases_lt first place) as (λ _. HasNoMarks told (folder_at folders first)) [
        | inl below ↦ far.none so first below
        | inr not_below ↦ (
            let same : place ≡ first = omega (arith, less, not_below) in
            subst (λ (n : ℕ). HasNoMarks told (folder_at folders n)) same here)
      ];
    }

-- the folder here is the first that has some
pub first_marked : (told : List ℕ → Option Seen) (folders : List (List ℕ)) (place : ℕ) → MarkedSoFar told folders false place → HasMarks told (folder_at folders place) → MarkedSoFar told folders true (place + 1)
first_marked told folders place far here =
    record {
      once = once_on told folders place far.once (λ first below. inl (far.none refl first below));
      some = λ so. (place, omega arith, here);
      none = λ so. (let no : ⊥ = cc in absurd no);
    }

-- it can't be said whether the folder here has some
pub alone_unseen : (told : List ℕ → Option Seen) (folders : List (List ℕ)) (place : ℕ) (why : Denial) → IsUnseenItem (told (folder_at folders place ++ codes "/.plfs")) why → IsAloneDenial told folders place why
alone_unseen told folders place denial.NoMemory unseen = unseen
alone_unseen told folders place (denial.Unseen error) unseen = unseen
alone_unseen told folders place denial.UsedAlone unseen = absurd unseen
alone_unseen told folders place why unseen = unseen
