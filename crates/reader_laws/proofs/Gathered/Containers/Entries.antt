-- What a listing of a folder names, and what it doesn't.
use Rattle.std.proofs.Common.{◌≡◌, ℕ, suc, nat_eq, Bool, true, false, ◌||◌, ◌&&◌, List, [], ◌∷◌, Option, Some, None, refl, ap, sym, ◌∙◌, inl, inr, arith}
use Rattle.std.specs.Prelude.{is_some}
use Rattle.std.proofs.lemmas.Bool.Decides.{nat_tests}
use Rattle.container_layout.specs.Paths.{hostdir_of}
use Rattle.plfs_types.specs.declared.names.Path.{Path}
use Rattle.store_api.specs.declared.tree.Room.{Room}
use Rattle.store_api.specs.Names.{same_name}
use Rattle.store_api.specs.Room.{is_top, has_folder}
use Rattle.store_laws.specs.Files.{file_at}
use Rattle.store_laws.specs.Differ.{is_listed}
use Rattle.store_laws.specs.There.{AreNamesOf}
use Rattle.store_laws.proofs.Facts.{name_eq, name_same}
use Rattle.plain_file.proofs.Facts.{Among}
use Rattle.mount_model.specs.Paths.{Name}

-- ---------- folders of droppings

some_length : (n : ℕ) → nat_eq (suc n) 0 ≡ false
some_length n = grind (arith, nat_tests)

-- a folder of droppings isn't the top
pub not_top : (host : ℕ) → is_top (hostdir_of host) ≡ false
not_top host = some_length _

-- ---------- names that are listed

pub listed_among : (name : Name) (names : List Name) → is_listed name names ≡ true → Among name names
listed_among name [] e = absurd (cc)
listed_among name (x ∷ xs) e = elim (same_name x name) as (λ b. same_name x name ≡ b → (b || is_listed name xs) ≡ true → Among name (x ∷ xs)) [
  | true ↦ λ same _. inl (sym (name_eq x name same))
  | false ↦ λ other rest. inr (listed_among name xs rest)
] refl e

or_true : (b : Bool) → (b || true) ≡ true
or_true true = refl
or_true false = refl

pub among_listed : (name : Name) (names : List Name) → Among name names → is_listed name names ≡ true
among_listed name [] a = absurd a
among_listed name (x ∷ xs) (inl e) = let same : same_name x name ≡ true = name_same x name (sym e) in rw same refl
among_listed name (x ∷ xs) (inr a) = ap (λ b. same_name x name || b) (among_listed name xs a) ∙ or_true (same_name x name)

-- ---------- entries of a folder

abbrev pub file_of : Name → Name → Path
file_of folder name = record { folder = folder; file = name }

-- a file that is there is named
pub file_named : (room : Room) (folder name : Name) (names : List Name) (bytes : List ℕ) → AreNamesOf room folder names → file_at room (file_of folder name) ≡ Some bytes → Among name names
file_named room folder name names bytes are e =
    listed_among name names (are.exactly name ∙ ap (λ o. is_some o || (is_top folder && is_listed name room.folders)) e)

some_there : (o : Option (List ℕ)) (rest : Bool) → rest ≡ false → (is_some o || rest) ≡ true → (bytes : List ℕ) × (o ≡ Some bytes)
some_there None rest none e = let clash : rest ≡ true = e in absurd (cc)
some_there (Some bytes) rest none e = (bytes, refl)

-- below the top a name is that of a file that is there
pub named_file : (room : Room) (folder name : Name) (names : List Name) → is_top folder ≡ false → AreNamesOf room folder names → Among name names → (bytes : List ℕ) × (file_at room (file_of folder name) ≡ Some bytes)
named_file room folder name names below are a =
    some_there (file_at room (file_of folder name)) (is_top folder && is_listed name room.folders) (ap (λ b. b && is_listed name room.folders) below)
    (sym (are.exactly name) ∙ among_listed name names a)

-- a folder that is there is named at the top
pub folder_named : (room : Room) (folder : Name) (names : List Name) → is_top folder ≡ false → has_folder room folder ≡ true → AreNamesOf room [] names → Among folder names
folder_named room folder names below has are =
    let listed : is_listed folder room.folders ≡ true = sym (ap (λ b. b || is_listed folder room.folders) below) ∙ has in
    listed_among folder names (are.exactly folder ∙ ap (λ b. is_some (file_at room (file_of [] folder)) || b) listed ∙ or_true (is_some (file_at room (file_of [] folder))))
