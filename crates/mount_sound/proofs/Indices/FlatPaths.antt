-- The files of a flattening are no droppings, and no truncates.
use Rattle.std.proofs.Common.{◌≡◌, ℕ, List, get_or, false, nat_eq, refl, ap, sym, ◌∙◌, ◌⊎◌, inl, inr}
use Rattle.plfs_types.specs.declared.names.Path.{Path}
use Rattle.container_layout.specs.Paths.{hostdir_of}
use Rattle.container_layout.proofs.Facts.{elsewhere}
use Rattle.store_laws.specs.Changes.{beside}
use Rattle.store_laws.specs.Naming.{IsPathOf}
use Rattle.mount_model.specs.declared.row.Flattening.{Flattening}
use Rattle.mount_model.specs.declared.row.FlatStage.TheVariants.{Begun}
use Rattle.mount_model.specs.declared.row.Making.{Making}
use Rattle.mount_model.specs.declared.row.Making.TheVariants as making
use Rattle.mount_model.specs.Paths.{Name, flats, index_path, log_path, meta_path, trunc_path, temporary, temporary_of, installed, installed_of}

same_letter : (n : ℕ) (a b : List ℕ) → a ≡ b → get_or a n 0 ≡ get_or b n 0
same_letter n a b e = ap (λ l. get_or l n 0) e

temporary_no_index : (makes : Making) (id host writer : ℕ) → IsPathOf (temporary_of makes id).folder (temporary_of makes id).file (index_path host writer) → ⊥
temporary_no_index making.Flat id host writer named = elsewhere (same_letter 0 _ _ named.0) refl
temporary_no_index (making.Pack h w) id host writer named = elsewhere (same_letter 0 _ _ named.1) refl

temporary_no_log : (makes : Making) (id host writer : ℕ) → IsPathOf (temporary_of makes id).folder (temporary_of makes id).file (log_path host writer) → ⊥
temporary_no_log making.Flat id host writer named = elsewhere (same_letter 0 _ _ named.0) refl
temporary_no_log (making.Pack h w) id host writer named = elsewhere (same_letter 0 _ _ named.1) refl

installed_no_index : (makes : Making) (id host writer : ℕ) → IsPathOf (temporary_of makes id).folder (installed_of makes id).file (index_path host writer) → ⊥
installed_no_index making.Flat id host writer named = elsewhere (same_letter 0 _ _ named.0) refl
installed_no_index (making.Pack h w) id host writer named = elsewhere (same_letter 5 _ _ named.1) refl

installed_no_log : (makes : Making) (id host writer : ℕ) → IsPathOf (temporary_of makes id).folder (installed_of makes id).file (log_path host writer) → ⊥
installed_no_log making.Flat id host writer named = elsewhere (same_letter 0 _ _ named.0) refl
installed_no_log (making.Pack h w) id host writer named = elsewhere (same_letter 0 _ _ named.1) refl

-- a path in another folder
abbrev IsInOther : Path → Type 0
IsInOther path = (nat_eq (get_or path.folder 0 0) (get_or flats 0 0) ≡ false) × (nat_eq (get_or path.folder 0 0) (get_or (hostdir_of 0) 0 0) ≡ false)

other_no_temporary : (path : Path) → IsInOther path → (makes : Making) (id : ℕ) → IsPathOf (temporary_of makes id).folder (temporary_of makes id).file path → ⊥
other_no_temporary path other making.Flat id named = elsewhere (same_letter 0 _ _ named.0) other.0
other_no_temporary path other (making.Pack h w) id named = elsewhere (same_letter 0 _ _ named.0) other.1

other_no_installed : (path : Path) → IsInOther path → (makes : Making) (id : ℕ) → IsPathOf (temporary_of makes id).folder (installed_of makes id).file path → ⊥
other_no_installed path other making.Flat id named = elsewhere (same_letter 0 _ _ named.0) other.0
other_no_installed path other (making.Pack h w) id named = elsewhere (same_letter 0 _ _ named.0) other.1

-- a flattening's files aren't this one
pub record IsNoFlattenings (path : Path) : Type 0 where
  pub from : (f : Flattening) → IsPathOf (temporary f).folder (temporary f).file path → ⊥
  pub to : (f : Flattening) → IsPathOf (temporary f).folder (installed f).file path → ⊥

pub index_no_flattenings : (host writer : ℕ) → IsNoFlattenings (index_path host writer)
index_no_flattenings host writer = record { from = λ f. temporary_no_index f.makes f.id host writer; to = λ f. installed_no_index f.makes f.id host writer }

pub log_no_flattenings : (host writer : ℕ) → IsNoFlattenings (log_path host writer)
log_no_flattenings host writer = record { from = λ f. temporary_no_log f.makes f.id host writer; to = λ f. installed_no_log f.makes f.id host writer }

other_no_flattenings : (path : Path) → IsInOther path → IsNoFlattenings path
other_no_flattenings path other = record { from = λ f. other_no_temporary path other f.makes f.id; to = λ f. other_no_installed path other f.makes f.id }

pub trunc_no_flattenings : (stamp size : ℕ) → IsNoFlattenings (trunc_path stamp size)
trunc_no_flattenings stamp size = other_no_flattenings (trunc_path stamp size) (refl, refl)

pub meta_no_flattenings : (last bytes stamp host writer : ℕ) → IsNoFlattenings (meta_path last bytes stamp host writer)
meta_no_flattenings last bytes stamp host writer = other_no_flattenings (meta_path last bytes stamp host writer) (refl, refl)

-- ---- the paths of flattenings

-- the path is that of a temporary file, or of what one becomes
abbrev pub IsFlattenings : Path → Type 0
IsFlattenings path = (makes : Making) × (id : ℕ) × ((path ≡ temporary_of makes id) ⊎ (path ≡ installed_of makes id))

pub is_temporarys : (makes : Making) (id : ℕ) → IsFlattenings (temporary_of makes id)
is_temporarys makes id = (makes, id, inl refl)

pub is_installeds : (makes : Making) (id : ℕ) → IsFlattenings (installed_of makes id)
is_installeds makes id = (makes, id, inr refl)

-- both are in one folder
pub one_folder : (makes : Making) (id : ℕ) → (installed_of makes id).folder ≡ (temporary_of makes id).folder
one_folder making.Flat id = refl
one_folder (making.Pack host writer) id = refl

pub moved_to : (makes : Making) (id : ℕ) → beside (temporary_of makes id) (installed_of makes id).file ≡ installed_of makes id
moved_to making.Flat id = refl
moved_to (making.Pack host writer) id = refl

made_as : Making → ℕ → Flattening
made_as makes id = record { id = id; owner = 0; room = 0; makes = makes; stage = Begun }

-- a file that is none of them
pub not_flattenings : (p path : Path) → IsNoFlattenings p → IsPathOf p.folder p.file path → IsFlattenings path → ⊥
unfolding made_as
not_flattenings p path none named (makes, id, inl e) = none.from (made_as makes id) (sym named.0 ∙ ap (λ (q : Path). q.folder) e, sym named.1 ∙ ap (λ (q : Path). q.file) e)
not_flattenings p path none named (makes, id, inr e) = none.to (made_as makes id) (sym named.0 ∙ ap (λ (q : Path). q.folder) e ∙ one_folder makes id, sym named.1 ∙ ap (λ (q : Path). q.file) e)

-- a path of a folder with another first byte
pub other_folder : (folder file : Name) (path : Path) → (nat_eq (get_or folder 0 0) (get_or flats 0 0) ≡ false) × (nat_eq (get_or folder 0 0) (get_or (hostdir_of 0) 0 0) ≡ false) → IsPathOf folder file path → IsFlattenings path → ⊥
other_folder folder file path other named of = not_flattenings (record { folder = folder; file = file }) path (other_no_flattenings (record { folder = folder; file = file }) other) named of
