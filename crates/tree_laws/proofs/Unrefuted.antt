-- What can't be refuted of each of finitely many can't be refuted of all.
use Rattle.std.proofs.Common.{◌≡◌, ℕ, zero, suc, ◌≤◌, ◌<◌, Bool, true, false, ◌||◌, ◌&&◌, List, [], ◌∷◌, length, Option, Some, None, refl, subst, inl, inr, arith}
use Rattle.std.specs.Prelude.{slice_get, option_map, if◌then◌else◌}
use Rattle.std.specs.List.{find, list_any}
use Rattle.std.proofs.lemmas.Bool.{cases_lt}
use Rattle.std.proofs.lemmas.Option.{slice_get_within}
use Rattle.plfs_types.specs.declared.names.Path.{Path}
use Rattle.store_api.specs.declared.tree.File.{File}
use Rattle.store_api.specs.declared.tree.Room.{Room}
use Rattle.store_api.specs.Step.{Name}
use Rattle.store_api.specs.Names.{same_name}
use Rattle.store_api.specs.Room.{is_at}
use Rattle.store_laws.specs.Files.{file_at}
use Rattle.store_laws.specs.Differ.{is_listed, is_there}
use Rattle.store_laws.proofs.Facts.{name_eq, path_eq}

abbrev pub Unrefuted : Type 0 → Type 0
Unrefuted P = (P → ⊥) → ⊥

pub both : {P Q : Type 0} → Unrefuted P → Unrefuted Q → Unrefuted (P × Q)
both p q refuted = p (λ x. q (λ y. refuted (x, y)))

-- what follows but can't be refuted follows, or that can't be refuted
pub implied : {P Q : Type 0} → (P → Unrefuted Q) → Unrefuted (P → Q)
implied f refuted = refuted (λ x. absurd (f x (λ y. refuted (λ _. y))))

-- of each number below a bound
pub each_below : (P : ℕ → Type 0) (bound : ℕ) → ((k : ℕ) → k < bound → Unrefuted (P k)) → Unrefuted ((k : ℕ) → k < bound → P k)
each_below P zero each refuted = refuted (λ k less. absurd (omega arith))
each_below P (suc n) each refuted = each_below P n (λ k less. each k (omega arith)) (λ all. each n (omega arith) (λ last. refuted (λ k less. elim (cases_lt k n) [
  | inl below ↦ all k below
  | inr least ↦ subst P (at_last k n less least) last
])))
  where
    at_last : (k n : ℕ) → k < suc n → n ≤ k → n ≡ k
    at_last k n less least = omega arith

-- where it is of a number that it has to be below the bound
pub each_within : (P : ℕ → Type 0) (bound : ℕ) → ((k : ℕ) → (bound ≤ k) → P k) → ((k : ℕ) → Unrefuted (P k)) → Unrefuted ((k : ℕ) → P k)
each_within P bound past each refuted = each_below P bound (λ k less. each k) (λ all. refuted (λ k. elim (cases_lt k bound) [
  | inl below ↦ all k below
  | inr least ↦ past k least
]))

-- of what an option has, if anything
pub of_some : {A : Type 0} (P : A → Type 0) (found : Option A) → ((x : A) → found ≡ Some x → Unrefuted (P x)) → Unrefuted ((x : A) → found ≡ Some x → P x)
of_some P None each refuted = refuted (λ x e. absurd (cc))
of_some P (Some y) each refuted = each y refl (λ holds. refuted (λ x e. let same : y ≡ x = cc in subst P same holds))

-- of each item of a list
pub each_item : {A : Type 0} (P : ℕ → A → Type 0) (xs : List A) → ((k : ℕ) (x : A) → slice_get xs k ≡ Some x → Unrefuted (P k x)) → Unrefuted ((k : ℕ) (x : A) → slice_get xs k ≡ Some x → P k x)
each_item P xs each = each_within (λ k. (x : _) → slice_get xs k ≡ Some x → P k x) (length xs)
    (λ k past x e. let within : k < length xs = slice_get_within xs k x e in absurd (omega (arith, past, within)))
    (λ k. of_some (P k) (slice_get xs k) (λ x e. each k x e))

-- of each name of a list
pub each_name : (P : Name → Type 0) (names : List Name) → ((name : Name) → Unrefuted (P name)) → Unrefuted ((name : Name) → is_listed name names ≡ true → P name)
each_name P [] each refuted = refuted (λ name e. absurd (cc))
each_name P (x ∷ xs) each refuted = each x (λ first. each_name P xs each (λ rest. refuted (λ name. cases name first rest)))
  where
    cases : (name : Name) → P x → ((other : Name) → is_listed other xs ≡ true → P other) → (same_name x name || is_listed name xs) ≡ true → P name
    cases name first rest e = elim (same_name x name) as (λ b. same_name x name ≡ b → (b || is_listed name xs) ≡ true → P name) [
      | true ↦ λ same _. subst P (name_eq x name same) first
      | false ↦ λ other later. rest name later
    ] refl e

-- of each path at which a list of files has one
pub each_path : (P : Path → Type 0) (files : List File) → ((path : Path) → Unrefuted (P path)) → Unrefuted ((path : Path) → is_there path.folder path.file files ≡ true → P path)
each_path P [] each refuted = refuted (λ path e. absurd (cc))
each_path P (f ∷ fs) each refuted = each f.path (λ first. each_path P fs each (λ rest. refuted (λ path. cases path first rest)))
  where
    its_path : (path : Path) (a b : Bool) → same_name f.path.folder path.folder ≡ a → same_name f.path.file path.file ≡ b → (a && b) ≡ true → f.path ≡ path
    its_path path true true in_folder named e = path_eq f.path path (name_eq f.path.folder path.folder in_folder) (name_eq f.path.file path.file named)
    its_path path true false in_folder named e = absurd (cc)
    its_path path false b in_folder named e = absurd (cc)

    cases : (path : Path) → P f.path → ((other : Path) → is_there other.folder other.file fs ≡ true → P other) → (is_at path.folder path.file f || is_there path.folder path.file fs) ≡ true → P path
    cases path first rest e = elim (is_at path.folder path.file f) as (λ b. is_at path.folder path.file f ≡ b → (b || is_there path.folder path.file fs) ≡ true → P path) [
      | true ↦ λ at _. subst P (its_path path _ _ refl refl at) first
      | false ↦ λ other later. rest path later
    ] refl e

-- a file that is found is one of the list
there : (p : File → Bool) (files : List File) (bytes : List ℕ) → option_map (λ (f : File). f.bytes) (find p files) ≡ Some bytes → list_any p files ≡ true
there p [] bytes e = absurd (cc)
there p (f ∷ fs) bytes e = elim (p f) as (λ b. p f ≡ b → option_map (λ (g : File). g.bytes) (if b then Some f else find p fs) ≡ Some bytes → (b || list_any p fs) ≡ true) [
  | true ↦ λ _ _. refl
  | false ↦ λ _ later. there p fs bytes later
] refl e

pub is_one : (room : Room) (path : Path) (bytes : List ℕ) → file_at room path ≡ Some bytes → is_there path.folder path.file room.files ≡ true
unfolding file_at
is_one room path bytes e = there (is_at path.folder path.file) room.files bytes e
