-- How a reader takes the newest flattened index of a container.
use Rattle.std.specs.Prelude.{◌≡◌, ◌≤◌, ◌==◌, ℕ, List, [], ◌∷◌, Option, Some, None, if◌then◌else◌}
use Rattle.std.specs.List.{Any}
use Rattle.plfs_types.specs.declared.entries.Cover.{Cover}
use Rattle.plain_file.specs.declared.pieces.Piece.{Piece}
use Rattle.container_layout.specs.declared.items.Item.TheVariants as item
use Rattle.container_layout.specs.Paths.{IsIn}
use Rattle.flat_format.specs.declared.flat.Flat.{Flat}
use Rattle.flat_format.specs.Spelling.{SpellsFlat}
use Rattle.mount_model.specs.declared.call.Look.TheVariants.{List as ListFolder}
use Rattle.mount_model.specs.Paths.{Name, flats, flat_path}
use Rattle.reader_laws.specs.Files.{ReadsFile}
use Rattle.reader_laws.specs.Gathering.{Gathered}
use Rattle.reader_laws.specs.GatheringListing.{IsListed}
use Rattle.reader_laws.specs.Seen.{Asked}

-- the name is that of the flattened index of this id
abbrev pub IsFlatName : Name → ℕ → Type 0
IsFlatName name id = IsIn flats name (item.Flat id)

-- the flattened index of this id is the newest one that is named
pub record IsNewest (names : List Name) (id : ℕ) : Type 0 where
  pub named : Any (λ name. IsFlatName name id) names
  pub greatest : (other : ℕ) → Any (λ name. IsFlatName name other) names → other ≤ id

-- The newest flattened index that is named is read, and is this one, or none is named.
abbrev pub TakesNewest : ℕ → List Name → Option Flat → List Asked → Type 0
TakesNewest room names None asked = ((id : ℕ) → Any (λ name. IsFlatName name id) names → ⊥) × (asked ≡ [])
TakesNewest room names (Some flat) asked = (id : ℕ) × (content : List ℕ) × IsNewest names id × ReadsFile room (flat_path id) content asked × SpellsFlat content flat

-- The folder of flattened indices is listed, and the newest one is read, if there is one.
pub record ReadsFlat (room : ℕ) (flat : Option Flat) (asked : List Asked) : Type 0 where
  pub first : Asked
  pub reads : List Asked
  pub calls : asked ≡ first ∷ reads
  pub names : List Name
  pub lists : IsListed room (ListFolder flats) names first
  pub takes : TakesNewest room names flat reads

-- what it covers of each writer
abbrev pub covers_of : Option Flat → List Cover
covers_of None = []
covers_of (Some flat) = flat.covers

-- its pieces
abbrev pub pieces_of : Option Flat → List Piece
pieces_of None = []
pieces_of (Some flat) = flat.pieces

-- how many entries of the writer are covered
abbrev pub covered_count : List Cover → ℕ → ℕ
covered_count [] writer = 0
covered_count (c ∷ covers) writer = if c.writer == writer then c.count else covered_count covers writer

-- so many are covered of what was gathered
abbrev pub IsCoveredSo : List Cover → Gathered → Type 0
IsCoveredSo covers g = g.covered ≡ covered_count covers g.dropping.writer
