-- Lists in which nothing stands twice stay so.
use Rattle.std.proofs.Common.{◌≡◌, ℕ, zero, suc, Bool, true, false, cond, List, [], ◌∷◌, ◌++◌, slice_get, slice_set, Some, refl, ap, sym, ◌∙◌, subst}
use Rattle.std.specs.List.{list_any, filter, remove}
use Rattle.plfs_types.specs.declared.names.Path.{Path}
use Rattle.store_api.specs.declared.tree.File.{File}
use Rattle.store_api.specs.Step.{Name}
use Rattle.store_api.specs.Names.{same_name}
use Rattle.store_api.specs.Room.{is_at}
use Rattle.store_laws.specs.Differ.{is_listed, NamesDiffer, is_there, FilesDiffer}
use Rattle.store_laws.proofs.Names.Naming.{name_apart, name_other, not_at, apart_at}
use Rattle.store_laws.proofs.Names.Searches.{none_at, none_more, none_set, none_removed}

-- a file whose path a later one doesn't have, doesn't have that one's
turned : (a b : File) → is_at a.path.folder a.path.file b ≡ false → is_at b.path.folder b.path.file a ≡ false
turned a b e = not_at b.path a (λ same. apart_at a.path b e (sym same))

as_path : (p : File) (a b : File) → a.path ≡ b.path → is_at p.path.folder p.path.file b ≡ false → is_at p.path.folder p.path.file a ≡ false
as_path p a b same e = not_at p.path a (λ is. apart_at p.path b e (sym same ∙ is))

pub files_more : (files : List File) (new : File) → FilesDiffer files → is_there new.path.folder new.path.file files ≡ false → FilesDiffer (files ++ new ∷ [])
files_more [] new d e = (refl, tt)
files_more (file ∷ files) new d e =
    let at : is_at new.path.folder new.path.file file ≡ false = none_at (is_at new.path.folder new.path.file) (file ∷ files) zero file e refl in
    let rest : is_there new.path.folder new.path.file files ≡ false = none_removed (is_at new.path.folder new.path.file) (file ∷ files) zero e in
    (none_more (is_at file.path.folder file.path.file) files new d.0 (turned new file at), files_more files new d.1 rest)

-- a file that keeps its path
pub files_set : (files : List File) (i : ℕ) (old new : File) → slice_get files i ≡ Some old → new.path ≡ old.path → FilesDiffer files → FilesDiffer (slice_set files i new)
files_set [] i old new at same d = absurd (cc)
files_set (file ∷ files) zero old new at same d =
    let is : file ≡ old = cc in
    let path : file.path ≡ new.path = ap (λ (f : File). f.path) is ∙ sym same in
    (subst (λ p. is_there p.folder p.file files ≡ false) path d.0, d.1)
files_set (file ∷ files) (suc i) old new at same d =
    (none_set (is_at file.path.folder file.path.file) files i new d.0 (as_path file new old same (none_at (is_at file.path.folder file.path.file) files i old d.0 at)), files_set files i old new at same d.1)

pub files_removed : (files : List File) (i : ℕ) → FilesDiffer files → FilesDiffer (remove files i)
files_removed [] zero d = tt
files_removed [] (suc i) d = tt
files_removed (file ∷ files) zero d = d.1
files_removed (file ∷ files) (suc i) d = (none_removed (is_at file.path.folder file.path.file) files i d.0, files_removed files i d.1)

-- the path of a file that is taken out stands nowhere else
pub gone_removed : (files : List File) (i : ℕ) (old : File) → slice_get files i ≡ Some old → FilesDiffer files → is_there old.path.folder old.path.file (remove files i) ≡ false
gone_removed [] i old at d = absurd (cc)
gone_removed (file ∷ files) zero old at d = let is : file ≡ old = cc in subst (λ (f : File). is_there f.path.folder f.path.file files ≡ false) is d.0
gone_removed (file ∷ files) (suc i) old at d =
    let first : is_at old.path.folder old.path.file file ≡ false = turned file old (none_at (is_at file.path.folder file.path.file) files i old d.0 at) in
    rw first (gone_removed files i old at d.1)

-- nor that of a file that another one takes the place of
pub gone_set : (files : List File) (i : ℕ) (old new : File) (path : Path) → slice_get files i ≡ Some old → old.path ≡ path → is_at path.folder path.file new ≡ false → FilesDiffer files → is_there path.folder path.file (slice_set files i new) ≡ false
gone_set [] i old new path at was other d = absurd (cc)
gone_set (file ∷ files) zero old new path at was other d =
    let is : file ≡ old = cc in
    let same : file.path ≡ path = ap (λ (f : File). f.path) is ∙ was in
    rw other (subst (λ p. is_there p.folder p.file files ≡ false) same d.0)
gone_set (file ∷ files) (suc i) old new path at was other d =
    let differs : is_at old.path.folder old.path.file file ≡ false = turned file old (none_at (is_at file.path.folder file.path.file) files i old d.0 at) in
    let first : is_at path.folder path.file file ≡ false = subst (λ p. is_at p.folder p.file file ≡ false) was differs in
    rw first (gone_set files i old new path at was other d.1)

-- a file takes a path that none has
pub files_renamed : (files : List File) (i : ℕ) (new : File) → is_there new.path.folder new.path.file files ≡ false → FilesDiffer files → FilesDiffer (slice_set files i new)
files_renamed [] i new e d = tt
files_renamed (file ∷ files) zero new e d = (none_removed (is_at new.path.folder new.path.file) (file ∷ files) zero e, d.1)
files_renamed (file ∷ files) (suc i) new e d =
    let at : is_at new.path.folder new.path.file file ≡ false = none_at (is_at new.path.folder new.path.file) (file ∷ files) zero file e refl in
    let rest : is_there new.path.folder new.path.file files ≡ false = none_removed (is_at new.path.folder new.path.file) (file ∷ files) zero e in
    (none_set (is_at file.path.folder file.path.file) files i new d.0 (turned new file at), files_renamed files i new rest d.1)

pub names_more : (names : List Name) (new : Name) → NamesDiffer names → is_listed new names ≡ false → NamesDiffer (names ++ new ∷ [])
names_more [] new d e = (refl, tt)
names_more (name ∷ names) new d e =
    let at : same_name name new ≡ false = none_at (λ other. same_name other new) (name ∷ names) zero name e refl in
    let turn : same_name new name ≡ false = name_other new name (λ same. name_apart name new at (sym same)) in
    let rest : is_listed new names ≡ false = none_removed (λ other. same_name other new) (name ∷ names) zero e in
    (none_more (λ other. same_name other name) names new d.0 turn, names_more names new d.1 rest)

pub none_kept : (p q : Name → Bool) (names : List Name) → list_any p names ≡ false → list_any p (filter q names) ≡ false
none_kept p q [] e = refl
none_kept p q (name ∷ names) e =
    let at : p name ≡ false = none_at p (name ∷ names) zero name e refl in
    let rest : list_any p (filter q names) ≡ false = none_kept p q names (none_removed p (name ∷ names) zero e) in
    elim (q name) as (λ b. list_any p (cond b (name ∷ filter q names) (filter q names)) ≡ false) [
      | true ↦ rw at rest
      | false ↦ rest
    ]

pub names_kept : (q : Name → Bool) (names : List Name) → NamesDiffer names → NamesDiffer (filter q names)
names_kept q [] d = tt
names_kept q (name ∷ names) d = elim (q name) as (λ b. NamesDiffer (cond b (name ∷ filter q names) (filter q names))) [
  | true ↦ (none_kept (λ other. same_name other name) q names d.0, names_kept q names d.1)
  | false ↦ names_kept q names d.1
]
