-- When two names, or two paths, are one.
use Rattle.std.proofs.Common.{◌≡◌, Bool, true, false, ◌&&◌, refl, ap, ◌⊎◌, inl, inr}
use Rattle.std.specs.Cmp.Lexicographic.{bytes_decides}
use Rattle.plfs_types.specs.declared.names.Path.{Path}
use Rattle.store_api.specs.declared.tree.File.{File}
use Rattle.store_api.specs.Step.{Name}
use Rattle.store_api.specs.Names.{same_name}
use Rattle.store_api.specs.Room.{is_at}
use Rattle.store_laws.specs.Files.{AreTwo}

pub name_eq : (a b : Name) → same_name a b ≡ true → a ≡ b
name_eq a b e = (bytes_decides a b).0 e

pub name_same : (a b : Name) → a ≡ b → same_name a b ≡ true
name_same a b e = (bytes_decides a b).1 e

pub name_refl : (a : Name) → same_name a a ≡ true
name_refl a = name_same a a refl

pub name_apart : (a b : Name) → same_name a b ≡ false → a ≡ b → ⊥
name_apart a b e same = let t = name_same a b same in absurd (cc)

pub name_other : (a b : Name) → (a ≡ b → ⊥) → same_name a b ≡ false
name_other a b other = elim (same_name a b) as (λ t. same_name a b ≡ t → t ≡ false) [
  | true ↦ λ e. absurd (other (name_eq a b e))
  | false ↦ λ e. refl
] refl

-- two names are one or not
pub name_cases : (a b : Name) → (a ≡ b) ⊎ (a ≡ b → ⊥)
name_cases a b = elim (same_name a b) as (λ t. same_name a b ≡ t → (a ≡ b) ⊎ (a ≡ b → ⊥)) [
  | true ↦ λ e. inl (name_eq a b e)
  | false ↦ λ e. inr (name_apart a b e)
] refl

pub path_eq : (a b : Path) → a.folder ≡ b.folder → a.file ≡ b.file → a ≡ b
path_eq a b f g = λ i. record { folder = f i; file = g i }

pub two_apart : (a b : Path) → AreTwo a b → a ≡ b → ⊥
two_apart a b two e = two (ap (λ (p : Path). p.folder) e) (ap (λ (p : Path). p.file) e)

pub apart_two : (a b : Path) → (a ≡ b → ⊥) → AreTwo a b
apart_two a b apart = λ f g. apart (path_eq a b f g)

-- two paths are one or not
pub path_cases : (a b : Path) → (a ≡ b) ⊎ AreTwo a b
path_cases a b = elim (name_cases a.folder b.folder) as (λ _. (a ≡ b) ⊎ AreTwo a b) [
  | inl f ↦ elim (name_cases a.file b.file) as (λ _. (a ≡ b) ⊎ AreTwo a b) [
    | inl g ↦ inl (path_eq a b f g)
    | inr g ↦ inr (λ _ same. g same)
  ]
  | inr f ↦ inr (λ same _. f same)
]

first : (a b : Bool) → (a && b) ≡ true → a ≡ true
first true b e = refl
first false b e = e

second : (a b : Bool) → (a && b) ≡ true → b ≡ true
second true b e = e
second false b e = absurd (cc)

-- a file at a path has it
pub at_path : (path : Path) (file : File) → is_at path.folder path.file file ≡ true → file.path ≡ path
at_path path file e =
    path_eq file.path path
    (name_eq file.path.folder path.folder (first (same_name file.path.folder path.folder) (same_name file.path.file path.file) e))
    (name_eq file.path.file path.file (second (same_name file.path.folder path.folder) (same_name file.path.file path.file) e))

pub path_at : (path : Path) (file : File) → file.path ≡ path → is_at path.folder path.file file ≡ true
path_at path file e =
    let f : same_name file.path.folder path.folder ≡ true = name_same file.path.folder path.folder (ap (λ (p : Path). p.folder) e) in
    let g : same_name file.path.file path.file ≡ true = name_same file.path.file path.file (ap (λ (p : Path). p.file) e) in
    rw (f, g) refl

pub not_at : (path : Path) (file : File) → (file.path ≡ path → ⊥) → is_at path.folder path.file file ≡ false
not_at path file apart = elim (is_at path.folder path.file file) as (λ t. is_at path.folder path.file file ≡ t → t ≡ false) [
  | true ↦ λ e. absurd (apart (at_path path file e))
  | false ↦ λ e. refl
] refl

pub apart_at : (path : Path) (file : File) → is_at path.folder path.file file ≡ false → file.path ≡ path → ⊥
apart_at path file e same = let t = path_at path file same in absurd (cc)
