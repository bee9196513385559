-- The greatest stamp of the truncates that stand in a room.
use Rattle.std.proofs.Common.{◌≡◌, ℕ, ◌≤◌, ◌⊎◌, inl, inr, true, List, [], ◌∷◌, Option, Some, None, max, refl, ap, sym, ◌∙◌, subst, arith}
use Rattle.std.specs.Prelude.{find, if◌then◌else◌, option_map}
use Rattle.std.proofs.lemmas.Bool.{cases_Bool, cases_lt, and_from, and_parts, cond-true, cond-false}
use Rattle.plfs_types.specs.declared.entries.Trunc.{Trunc}
use Rattle.plfs_types.specs.declared.names.Path.{Path}
use Rattle.container_layout.specs.declared.items.Item.TheVariants as item
use Rattle.container_layout.specs.Paths.{IsIn}
use Rattle.store_api.specs.declared.tree.File.{File}
use Rattle.store_api.specs.declared.tree.Room.{Room}
use Rattle.store_api.specs.Names.{same_name}
use Rattle.store_api.specs.Room.{is_in, is_at}
use Rattle.store_laws.specs.Files.{file_at}
use Rattle.store_laws.proofs.Facts.{name_eq, name_refl}
use Rattle.mount_model.specs.Paths.{Name, truncs, trunc_path}
use Rattle.mount_sound.specs.Items.{HasItem}
use Rattle.mount_model.specs.Names.{trunc_in}
use Rattle.mount_model.proofs.Flows.Facts.{trunc_in-found, trunc_in-is}
use Rattle.recovery_laws.proofs.Holds.Tops.{cases_Option}

stamp_of : Option Trunc → ℕ
stamp_of None = 0
stamp_of (Some t) = t.stamp

stamp_in : File → ℕ
stamp_in file = if is_in truncs file then stamp_of (trunc_in file.path.file) else 0

greatest_of : List File → ℕ
greatest_of [] = 0
greatest_of (file ∷ files) = max (stamp_in file) (greatest_of files)

pub greatest_in : Room → ℕ
greatest_in room = greatest_of room.files

-- a truncate stands, or there is none
abbrev pub Stands : ℕ → Room → Type 0
Stands stamp room = (stamp ≡ 0) ⊎ ((size : ℕ) × (content : List ℕ) × HasItem room (item.Trunc stamp size) content)

-- ---- it is above each

above_found : (files : List File) (name : Name) (file : File) (t : Trunc) → find (is_at truncs name) files ≡ Some file → trunc_in name ≡ Some t → t.stamp ≤ greatest_of files
unfolding greatest_of stamp_in stamp_of
above_found [] name file t h is = let clash : ◌≡◌ {A = Option File} None (Some file) = h in absurd cc
above_found (first ∷ files) name file t h is = elim (cases_Bool (is_at truncs name first)) as (λ _. t.stamp ≤ greatest_of (first ∷ files)) [
  | inl here ↦ (let parts = and_parts (is_in truncs first) (same_name first.path.file name) here in
      let named : first.path.file ≡ name = name_eq first.path.file name parts.1 in
      let own : stamp_in first ≡ t.stamp = cond-true (is_in truncs first) (stamp_of (trunc_in first.path.file)) 0 parts.0 ∙ ap (λ n. stamp_of (trunc_in n)) named ∙ ap stamp_of is in
      omega (arith, own))
  | inr other ↦ (let rest : find (is_at truncs name) files ≡ Some file = sym (cond-false (is_at truncs name first) (Some first) (find (is_at truncs name) files) other) ∙ h in
      omega (arith, above_found files name file t rest is))
]

file_there : (o : Option File) (bytes : List ℕ) → option_map (λ (f : File). f.bytes) o ≡ Some bytes → (file : File) × (o ≡ Some file)
file_there None bytes h = absurd cc
file_there (Some file) bytes h = (file, refl)

pub greatest_above : (room : Room) (stamp size : ℕ) (content : List ℕ) → HasItem room (item.Trunc stamp size) content → stamp ≤ greatest_in room
unfolding greatest_in file_at
greatest_above room stamp size content has =
    let name : Name = (trunc_path stamp size).file in
    let is : IsIn truncs name (item.Trunc stamp size) = record { is_item = has.is_item; printed = refl } in
    let found = file_there (find (is_at truncs name) room.files) content has.there in
    above_found room.files name found.0 (record { stamp = stamp; size = size }) found.1 (trunc_in-is name stamp size is)

-- ---- it is that of one

-- a file of the list is found, or one before it of the same path
found_first : (name : Name) (first : File) (files : List File) → is_at truncs name first ≡ true → find (is_at truncs name) (first ∷ files) ≡ Some first
found_first name first files h = cond-true (is_at truncs name first) (Some first) (find (is_at truncs name) files) h

found_later : (name : Name) (first file : File) (files : List File) → find (is_at truncs name) files ≡ Some file → (other : File) × (find (is_at truncs name) (first ∷ files) ≡ Some other)
found_later name first file files h = elim (cases_Bool (is_at truncs name first)) [
  | inl here ↦ (first, found_first name first files here)
  | inr not ↦ (file, cond-false (is_at truncs name first) (Some first) (find (is_at truncs name) files) not ∙ h)
]

Attained : List File → ℕ → Type 0
Attained files stamp = (stamp ≡ 0) ⊎ ((name : Name) × (file : File) × (t : Trunc) × (find (is_at truncs name) files ≡ Some file) × (trunc_in name ≡ Some t) × (t.stamp ≡ stamp))

own_attained : (first : File) (files : List File) → Attained (first ∷ files) (stamp_in first)
unfolding Attained stamp_in stamp_of
own_attained first files = elim (cases_Bool (is_in truncs first)) as (λ _. Attained (first ∷ files) (stamp_in first)) [
  | inl inside ↦ elim (cases_Option (trunc_in first.path.file)) as (λ _. Attained (first ∷ files) (stamp_in first)) [
    | inl none ↦ inl (cond-true (is_in truncs first) (stamp_of (trunc_in first.path.file)) 0 inside ∙ ap stamp_of none)
    | inr some ↦ inr (
      first.path.file,
      first,
      some.0,
      found_first first.path.file first files (and_from (is_in truncs first) (same_name first.path.file first.path.file) inside (name_refl first.path.file)),
      some.1,
      sym (cond-true (is_in truncs first) (stamp_of (trunc_in first.path.file)) 0 inside ∙ ap stamp_of some.1),
    )
  ]
  | inr outside ↦ inl (cond-false (is_in truncs first) (stamp_of (trunc_in first.path.file)) 0 outside)
]

later_attained : (first : File) (files : List File) (stamp : ℕ) → Attained files stamp → Attained (first ∷ files) stamp
unfolding Attained
later_attained first files stamp (inl none) = inl none
later_attained first files stamp (inr a) =
    let f = found_later a.0 first a.1 files a.3 in
    inr (a.0, f.0, a.2, f.1, a.4, a.5)

attained : (files : List File) → Attained files (greatest_of files)
unfolding greatest_of Attained
attained [] = inl refl
attained (first ∷ files) = elim (cases_lt (stamp_in first) (greatest_of files)) as (λ _. Attained (first ∷ files) (max (stamp_in first) (greatest_of files))) [
  | inl less ↦ (let e : greatest_of files ≡ max (stamp_in first) (greatest_of files) = omega (arith, less) in subst (Attained (first ∷ files)) e (later_attained first files (greatest_of files) (attained files)))
  | inr more ↦ (let e : stamp_in first ≡ max (stamp_in first) (greatest_of files) = omega (arith, more) in subst (Attained (first ∷ files)) e (own_attained first files))
]

pub greatest_stands : (room : Room) → Stands (greatest_in room) room
unfolding greatest_in Attained file_at
greatest_stands room = elim (attained room.files) as (λ _. Stands (greatest_of room.files) room) [
  | inl none ↦ inl none
  | inr a ↦ (let is : IsIn truncs a.0 (item.Trunc a.2.stamp a.2.size) = trunc_in-found a.0 a.2 a.4 in
      let has : HasItem room (item.Trunc a.2.stamp a.2.size) a.1.bytes = record {
        is_item = is.is_item;
        there = subst (λ (p : Path). file_at room p ≡ Some a.1.bytes) is.printed (ap (option_map (λ (f : File). f.bytes)) a.3);
      } in
      inr (a.2.size, a.1.bytes, subst (λ s. HasItem room (item.Trunc s a.2.size) a.1.bytes) a.5 has))
]
