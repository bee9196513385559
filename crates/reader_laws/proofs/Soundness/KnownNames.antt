-- The names in the folders of a container of a sound state are those that a listing knows.
use Rattle.std.proofs.Common.{◌≡◌, ℕ, ◌+◌, ◌<◌, Bool, true, false, ◌||◌, List, [], ◌∷◌, get_or, map, Option, Some, None, refl, ap, sym, ◌∙◌, ◌⊎◌, inl, inr, subst, arith}
use Rattle.std.specs.Prelude.{Result, Ok, Err, is_some, if◌then◌else◌}
use Rattle.std.proofs.lemmas.Bool.{cond-true}
use Rattle.plfs_types.specs.declared.names.Path.{Path}
use Rattle.plain_file.proofs.Facts.{Among}
use Rattle.container_layout.specs.declared.items.Item.{Item}
use Rattle.container_layout.specs.declared.items.Item.TheVariants as item
use Rattle.container_layout.specs.Paths.{hostdir_of, path_of}
use Rattle.container_layout.proofs.Facts.{elsewhere}
use Rattle.store_api.specs.declared.tree.Room.{Room}
use Rattle.store_api.specs.Room.{has_folder, is_top}
use Rattle.store_laws.specs.Differ.{is_listed}
use Rattle.store_laws.specs.Files.{file_at}
use Rattle.store_laws.specs.There.{AreNamesOf}
use Rattle.mount_model.specs.Paths.{Name, flats, metadata, truncs}
use Rattle.mount_sound.specs.Container.{IsContainer, IsContainerFolder, IsItemFile}
use Rattle.mount_model.specs.declared.stuck.Stuck.{Stuck}
use Rattle.mount_model.specs.FlowReplies.{damage}
use Rattle.mount_model.specs.FlowListed.{file_in}
use Rattle.index_reader.specs.Items.{flat_item, hostdir_item, is_flats, is_of_hostdir}
use Rattle.index_reader.specs.Newest.{flats_path, greater_id, if_flat, newest_in}
use Rattle.index_reader.specs.Scanning.{foreign_in, foreign_or, unless_foreign}
use Rattle.index_reader.specs.Searching.{has_name, same_bytes}
use Rattle.index_reader.specs.Tops.{access, foreign_at_top, required, shown, top_names, top_shows}
use Rattle.container_layout.specs.Paths.{hostdirs}
use Rattle.index_reader.proofs.Facts.{same_bytes-itself}
use Rattle.reader_laws.proofs.Gathered.Facts.{among_listed, file_named, file_of, folder_named, in_range}
use Rattle.reader_laws.proofs.OpenReaders.Cuts.{among_map}

-- ---- flattened indices

pub flats_known : (it : Item) → (path_of it).folder ≡ flats → is_flats it ≡ true
flats_known (item.Flat id) e = refl
flats_known (item.TmpFlat id) e = refl
flats_known other e = elsewhere (ap (λ (l : List ℕ). get_or l 0 0) e) refl

-- names that are all known tell the newest, where there is one
pub newest_told : (names : List Name) (sofar : Option ℕ) → ((name : Name) → Among name names → (it : Item) × (flat_item (flats_path name) ≡ Some it)) → (newest : Option ℕ) × (newest_in names sofar ≡ Ok newest)
newest_told [] sofar each = (sofar, refl)
newest_told (name ∷ names) sofar each = let here = each name (inl refl) in by_item here.0 here.1 (λ further. newest_told names further (λ n a. each n (inr a)))
  where
    by_item : (it : Item) → flat_item (flats_path name) ≡ Some it → ((further : Option ℕ) → (newest : Option ℕ) × (newest_in names further ≡ Ok newest)) → (newest : Option ℕ) × (newest_in (name ∷ names) sofar ≡ Ok newest)
    by_item (item.Flat id) found later =
        let rest = later (greater_id id sofar) in
        (rest.0, ap (λ o. if_flat name o sofar (λ further. newest_in names further)) found ∙ rest.1)
    by_item other found later =
        let rest = later sofar in
        (rest.0, ap (λ o. if_flat name o sofar (λ further. newest_in names further)) found ∙ rest.1)

-- ---- droppings

pub hostdir_known : (it : Item) (k : ℕ) → (path_of it).folder ≡ hostdir_of k → is_of_hostdir it ≡ true
hostdir_known (item.Index host writer) k e = refl
hostdir_known (item.Log host writer) k e = refl
hostdir_known (item.Packed host writer) k e = refl
hostdir_known (item.TmpPacked host id) k e = refl
hostdir_known other k e = elsewhere (ap (λ (l : List ℕ). get_or l 0 0) e) refl

pub none_foreign : (folder : Name) (names : List Name) → ((name : Name) → Among name names → (it : Item) × (hostdir_item (file_in folder name) ≡ Some it)) → foreign_in folder names ≡ None
none_foreign folder [] each = refl
none_foreign folder (name ∷ names) each = ap (λ o. foreign_or name o (foreign_in folder names)) (each name (inl refl)).1 ∙ none_foreign folder names (λ n a. each n (inr a))

-- ---- the top

pub among_has : (name : Name) (names : List Name) → Among name names → has_name name names ≡ true
among_has name [] a = absurd a
among_has name (other ∷ names) (inl same) = cond-true (same_bytes name other) true (has_name name names) (ap (same_bytes name) (sym same) ∙ same_bytes-itself name)
among_has name (other ∷ names) (inr a) = elim (same_bytes name other) as (λ b. (if b then true else has_name name names) ≡ true) [ true ↦ refl | false ↦ among_has name names a ]

top_item : (it : Item) → (path_of it).folder ≡ [] → it ≡ item.Access
top_item item.Access e = refl
top_item other e = elsewhere (ap (λ (l : List ℕ). get_or l 0 0) e) refl

either_true : (a b : Bool) → (a || b) ≡ true → (a ≡ true) ⊎ (b ≡ true)
either_true true b e = inl refl
either_true false b e = inr e

or_true : (b : Bool) → (b || true) ≡ true
or_true true = refl
or_true false = refl

its_bytes : (o : Option (List ℕ)) → is_some o ≡ true → (bytes : List ℕ) × (o ≡ Some bytes)
its_bytes None e = absurd (cc)
its_bytes (Some bytes) e = (bytes, refl)

folder_known : (name : Name) → IsContainerFolder name → (name ≡ [] → ⊥) → Among name top_names
folder_known name (inl e) other = absurd (other e)
folder_known name (inr (inl e)) other = inr (inl e)
folder_known name (inr (inr (inl e))) other = inr (inr (inl e))
folder_known name (inr (inr (inr (inl e)))) other = inr (inr (inr (inl e)))
folder_known name (inr (inr (inr (inr (inl e))))) other = inr (inr (inr (inr (inl e))))
folder_known name (inr (inr (inr (inr (inr (host, small, e)))))) other =
    inr (inr (inr (inr (inr (subst (λ n. Among n (map hostdir_of hostdirs)) (sym e) (among_map hostdir_of hostdirs host (in_range 0 32 host (omega arith) (below host small))))))))
  where
    below : (h : ℕ) → h < 32 → h < 0 + 32
    below h l = omega (arith, l)

module _ (allowed : ℕ → Type 0) (room : Room) (names : List Name) (c : IsContainer allowed room) (are : AreNamesOf room [] names) where
  top_known : (name : Name) → Among name names → Among name top_names
  top_known name a = elim (either_true (is_some (file_at room (file_of [] name))) (is_listed name room.folders) (sym (are.exactly name) ∙ among_listed name names a)) as (λ _. Among name top_names) [
    | inl file ↦
        let f = its_bytes (file_at room (file_of [] name)) file in
        let i : IsItemFile allowed room (file_of [] name) f.0 = c.files (file_of [] name) f.0 f.1 in
        let is : i.item ≡ item.Access = top_item i.item (sym (ap (λ (p : Path). p.folder) i.is_at.printed)) in
        inl (ap (λ (p : Path). p.file) i.is_at.printed ∙ ap (λ x. (path_of x).file) is)
    | inr folder ↦ folder_known name (c.folders name (ap (λ b. is_top name || b) folder ∙ or_true (is_top name))) (λ e. (let clash : true ≡ false = sym folder ∙ ap (λ n. is_listed n room.folders) e ∙ c.top_unlisted in cc))
  ]

  -- a folder of droppings that is named is there
  pub hostdir_there : (k : ℕ) → Among (hostdir_of k) names → has_folder room (hostdir_of k) ≡ true
  hostdir_there k a = elim (either_true (is_some (file_at room (file_of [] (hostdir_of k)))) (is_listed (hostdir_of k) room.folders) (sym (are.exactly (hostdir_of k)) ∙ among_listed (hostdir_of k) names a)) as (λ _. has_folder room (hostdir_of k) ≡ true) [
    | inl file ↦
        let f = its_bytes (file_at room (file_of [] (hostdir_of k))) file in
        let i : IsItemFile allowed room (file_of [] (hostdir_of k)) f.0 = c.files (file_of [] (hostdir_of k)) f.0 f.1 in
        let is : i.item ≡ item.Access = top_item i.item (sym (ap (λ (p : Path). p.folder) i.is_at.printed)) in
        elsewhere (ap (λ (n : Name). get_or n 0 0) (ap (λ (p : Path). p.file) i.is_at.printed ∙ ap (λ x. (path_of x).file) is)) refl
    | inr folder ↦ ap (λ b. is_top (hostdir_of k) || b) folder ∙ or_true (is_top (hostdir_of k))
  ]

  none_at_top : (some : List Name) → ((name : Name) → Among name some → Among name top_names) → foreign_at_top some ≡ None
  none_at_top [] each = refl
  none_at_top (name ∷ some) each = cond-true (has_name name top_names) (foreign_at_top some) (Some name) (among_has name top_names (each name (inl refl))) ∙ none_at_top some (λ n a. each n (inr a))

  required_there : {X : Type 0} (name : Name) (path : Path) (next : Result X Stuck) → Among name names → required name path names next ≡ next
  required_there name path next a = cond-true (has_name name names) next (Err (damage path 0)) (among_has name names a)

  has_folder_there : (folder : Name) → is_top folder ≡ false → has_folder room folder ≡ true → Among folder names
  has_folder_there folder below has = folder_named room folder names below has are

  -- The top shows the folders of droppings that it names.
  pub top_told : top_shows names ≡ Ok (shown names hostdirs)
  top_told =
      let last : Result (List ℕ) Stuck = Ok (shown names hostdirs) in
      let fourth : Result (List ℕ) Stuck = required truncs (file_in truncs []) names last in
      let third : Result (List ℕ) Stuck = required metadata (file_in metadata []) names fourth in
      let second : Result (List ℕ) Stuck = required flats (file_in flats []) names third in
      let first : Result (List ℕ) Stuck = required access (file_in [] access) names second in
      ap (λ o. unless_foreign [] o first) (none_at_top names top_known)
      ∙ required_there access (file_in [] access) second (file_named room [] access names [] are c.has_access)
      ∙ required_there flats (file_in flats []) third (has_folder_there flats refl c.has_flats)
      ∙ required_there metadata (file_in metadata []) fourth (has_folder_there metadata refl c.has_metadata)
      ∙ required_there truncs (file_in truncs []) last (has_folder_there truncs refl c.has_truncs)
