-- The greatest stamp of a listing is above those of all its names.
use Rattle.std.proofs.Common.{◌≡◌, ℕ, ◌≤◌, ◌⊎◌, inl, inr, Bool, true, false, ◌||◌, List, [], ◌∷◌, Option, Some, None, max, refl, ap, sym, ◌∙◌, arith}
use Rattle.std.specs.Prelude.{Result, Ok, Err}
use Rattle.plfs_types.specs.declared.entries.Trunc.{Trunc}
use Rattle.store_api.specs.Names.{same_name}
use Rattle.store_laws.specs.Differ.{is_listed}
use Rattle.store_laws.proofs.Facts.{name_eq}
use Rattle.mount_model.specs.declared.stuck.Stuck.{Stuck}
use Rattle.mount_model.specs.Paths.{Name, metadata, truncs}
use Rattle.mount_model.specs.declared.names.Metadata.{Metadata}
use Rattle.mount_model.specs.Names.{meta_in, trunc_in}
use Rattle.mount_model.specs.FlowReplies.{damage}
use Rattle.mount_model.specs.FlowListed.{file_in, or_trouble}
use Rattle.trunc_rename.specs.Tops.{metadata_top, truncs_top}

pub cases_Option : {X : Type 0} (o : Option X) → (o ≡ None) ⊎ ((x : X) × (o ≡ Some x))
cases_Option None = inl refl
cases_Option (Some x) = inr (x, refl)

pub either_of : (b c : Bool) → (b || c) ≡ true → (b ≡ true) ⊎ (c ≡ true)
either_of true c h = inl refl
either_of false c h = inr h

-- what went on went on with what was there
pub went_on : {A : Type 0} (o : Option A) (why : Stuck) (next : A → Result ℕ Stuck) (top : ℕ) → or_trouble o why next ≡ Ok top → (a : A) × (o ≡ Some a) × (next a ≡ Ok top)
went_on None why next top h = let clash : ◌≡◌ {A = Result ℕ Stuck} (Err why) (Ok top) = h in absurd cc
went_on (Some a) why next top h = (a, refl, h)

-- ---- metadata

metadata_step : (name : Name) (names : List Name) (start top : ℕ) → metadata_top (name ∷ names) start ≡ Ok top → (m : Metadata) × (meta_in name ≡ Some m) × (metadata_top names (max start m.stamp) ≡ Ok top)
metadata_step name names start top h = went_on (meta_in name) (damage (file_in metadata name) 0) (λ (m : Metadata). metadata_top names (max start m.stamp)) top h

pub metadata_above : (names : List Name) (start top : ℕ) → metadata_top names start ≡ Ok top → start ≤ top
metadata_above [] start top h = let same : start ≡ top = cc in omega (arith, same)
metadata_above (name ∷ names) start top h =
    let s = metadata_step name names start top h in
    omega (arith, metadata_above names (max start s.0.stamp) top s.2)

pub metadata_has : (names : List Name) (start top : ℕ) (name : Name) (m : Metadata) → metadata_top names start ≡ Ok top → is_listed name names ≡ true → meta_in name ≡ Some m → m.stamp ≤ top
metadata_has [] start top name m h listed is = let clash : false ≡ true = listed in absurd cc
metadata_has (first ∷ names) start top name m h listed is =
    let s = metadata_step first names start top h in
    elim (either_of (same_name first name) (is_listed name names) listed) as (λ _. m.stamp ≤ top) [
      | inl here ↦ (let e : Some s.0 ≡ Some m = sym s.1 ∙ ap meta_in (name_eq first name here) ∙ is in
          let same : s.0 ≡ m = cc in
          omega (arith, ap (λ (x : Metadata). x.stamp) same, metadata_above names (max start s.0.stamp) top s.2))
      | inr later ↦ metadata_has names (max start s.0.stamp) top name m s.2 later is
    ]

-- ---- truncates

truncs_step : (name : Name) (names : List Name) (start top : ℕ) → truncs_top (name ∷ names) start ≡ Ok top → (t : Trunc) × (trunc_in name ≡ Some t) × (truncs_top names (max start t.stamp) ≡ Ok top)
truncs_step name names start top h = went_on (trunc_in name) (damage (file_in truncs name) 0) (λ (t : Trunc). truncs_top names (max start t.stamp)) top h

pub truncs_above : (names : List Name) (start top : ℕ) → truncs_top names start ≡ Ok top → start ≤ top
truncs_above [] start top h = let same : start ≡ top = cc in omega (arith, same)
truncs_above (name ∷ names) start top h =
    let s = truncs_step name names start top h in
    omega (arith, truncs_above names (max start s.0.stamp) top s.2)

pub truncs_has : (names : List Name) (start top : ℕ) (name : Name) (t : Trunc) → truncs_top names start ≡ Ok top → is_listed name names ≡ true → trunc_in name ≡ Some t → t.stamp ≤ top
truncs_has [] start top name t h listed is = let clash : false ≡ true = listed in absurd cc
truncs_has (first ∷ names) start top name t h listed is =
    let s = truncs_step first names start top h in
    elim (either_of (same_name first name) (is_listed name names) listed) as (λ _. t.stamp ≤ top) [
      | inl here ↦ (let e : Some s.0 ≡ Some t = sym s.1 ∙ ap trunc_in (name_eq first name here) ∙ is in
          let same : s.0 ≡ t = cc in
          omega (arith, ap (λ (x : Trunc). x.stamp) same, truncs_above names (max start s.0.stamp) top s.2))
      | inr later ↦ truncs_has names (max start s.0.stamp) top name t s.2 later is
    ]
