-- What is known of a container while an index is checked, and what is told of one.
use Rattle.std.specs.Prelude.{◌≡◌, ℕ, ◌≤◌, List, [], ◌∷◌, length, take, true, Option, Some, None}
use Rattle.std.specs.BTreeMap.{BTreeMap, get}
use Rattle.std.specs.Ordering.{nat_cmp}
use Rattle.plfs_types.specs.declared.entries.Cover.{Cover}
use Rattle.plfs_types.specs.declared.entries.Entry.{Entry}
use Rattle.plfs_types.specs.declared.names.Path.{Path}
use Rattle.index_entry.specs.Entries.{logged, last_stamp}
use Rattle.plain_file.specs.declared.pieces.Piece.{Piece}
use Rattle.plain_file.specs.Runs.{ArePieces}
use Rattle.flat_format.specs.declared.flat.Flat.{Flat}
use Rattle.flat_format.specs.Spelling.{SpellsFlat}
use Rattle.flat_format.specs.Valid.{IsFlat}
use Rattle.index_pack.specs.Spelling.{Packs}
use Rattle.store_api.specs.declared.tree.Room.{Room}
use Rattle.store_api.specs.declared.tree.Tree.{Tree}
use Rattle.store_api.specs.Acts.{Stored}
use Rattle.store_laws.specs.Files.{file_at}
use Rattle.container_layout.specs.declared.items.Item.TheVariants.{Index}
use Rattle.mount_sound.specs.Items.{HasItem}
use Rattle.mount_sound.specs.Flats.{IsCovered, AreCovered, covered_entries}
use Rattle.shape_check.specs.declared.files.Place.{Place}
use Rattle.shape_check.specs.declared.finding.Complaint.{Complaint}
use Rattle.shape_check.specs.declared.finding.Finding.{Finding}
use Rattle.shape_check.specs.Files.{IsPlaced}
use Rattle.shape_check.specs.Rightness.{IsFoundIn}
use Rattle.shape_check.specs.Seeing.{IsSeen}
use Rattle.tree_check.specs.declared.droppings.Read.{Read}
use Rattle.tree_check.specs.declared.owners.Owner.{Owner}
use Rattle.tree_check.specs.Owners.{AreOwnersOf}

-- these are the writers of the container
pub record IsOwned (place : Place) (owners : BTreeMap ℕ Owner) (tree : Tree) : Type 0 where
  pub placed : IsPlaced place tree
  pub owners_are : AreOwnersOf owners placed.room

-- the same, and it has a file there
pub record IsOwnedAt (place : Place) (owners : BTreeMap ℕ Owner) (path : Path) (tree : Tree) : Type 0 where
  pub owned : IsOwned place owners tree
  pub bytes : List ℕ
  pub there : file_at owned.placed.room path ≡ Some bytes

abbrev pub OfOwnedAt : (Tree → Room → Type 0) → Place → BTreeMap ℕ Owner → Path → Stored → Type 0
OfOwnedAt Q place owners path stored = (tree : Tree) → IsSeen stored tree → (at : IsOwnedAt place owners path tree) → Q tree at.owned.placed.room

-- what is found wrong of it is of it, and R holds of the complaint there
abbrev pub FindsOwned : (Room → Complaint → Type 0) → Place → BTreeMap ℕ Owner → Path → Stored → Finding → Type 0
FindsOwned R place owners path stored finding = OfOwnedAt (λ tree room. IsFoundIn place.name (R room) finding) place owners path stored

-- the writer is of this host, and has left
abbrev pub IsLeftOf : BTreeMap ℕ Owner → ℕ → ℕ → Type 0
IsLeftOf owners host writer = get nat_cmp owners writer ≡ Some (record { host = host; has_left = true })

-- the bytes are this flattened index and no other, or none
abbrev pub IsDecoded : List ℕ → Option Flat → Type 0
IsDecoded bytes None = (flat : Flat) → IsFlat flat → SpellsFlat bytes flat → ⊥
IsDecoded bytes (Some flat) = IsFlat flat × SpellsFlat bytes flat × ((other : Flat) → IsFlat other → SpellsFlat bytes other → other ≡ flat)

-- the bytes are the packed index of these entries, or of none
abbrev pub IsUnpacked : List ℕ → Option (List Entry) → Type 0
IsUnpacked bytes None = (entries : List Entry) → Packs bytes entries → ⊥
IsUnpacked bytes (Some entries) = Packs bytes entries

-- the covers are of first entries of their writers, and the pieces are these entries'
abbrev pub AreTheirs : Room → Flat → Type 0
AreTheirs room flat = (entries : List Entry) × AreCovered room flat.covers entries × ArePieces entries [] flat.pieces

-- what was read is of a host whose index dropping of the cover's writer is there, or the cover isn't of first entries of its writer
abbrev pub TellsRead : Room → Cover → Option Read → Type 0
TellsRead room cover None = IsCovered room cover → ⊥
TellsRead room cover (Some read) = (content : List ℕ) × HasItem room (Index read.host cover.writer) content

-- the pieces are those of the cover's entries, or the cover isn't of first entries of its writer
abbrev pub TellsCover : Room → Cover → Option (List Piece) → Type 0
TellsCover room cover None = IsCovered room cover → ⊥
TellsCover room cover (Some pieces) = (is : IsCovered room cover) × ArePieces (covered_entries room is.host cover) [] pieces

-- each list is of the cover's entries
abbrev pub AreOfCovers : Room → List Cover → List (List Piece) → Type 0
AreOfCovers room [] [] = Unit {0}
AreOfCovers room [] (pieces ∷ lists) = ⊥
AreOfCovers room (cover ∷ covers) [] = ⊥
AreOfCovers room (cover ∷ covers) (pieces ∷ lists) = TellsCover room cover (Some pieces) × AreOfCovers room covers lists

-- the lists are so, or one of the covers isn't of first entries of its writer
abbrev pub TellsCovers : Room → List Cover → Option (List (List Piece)) → Type 0
TellsCovers room covers None = (entries : List Entry) → AreCovered room covers entries → ⊥
TellsCovers room covers (Some lists) = AreOfCovers room covers lists

-- the pieces are those of the first entries, of which the cover tells; or it tells of none
abbrev pub IsCoverOf : Cover → List Entry → Option (List Piece) → Type 0
IsCoverOf cover entries None = cover.count ≤ length entries → cover.bytes ≡ logged (take cover.count entries) → cover.stamp ≡ last_stamp 0 (take cover.count entries) → ⊥
IsCoverOf cover entries (Some pieces) =
    (cover.count ≤ length entries) × (cover.bytes ≡ logged (take cover.count entries)) × (cover.stamp ≡ last_stamp 0 (take cover.count entries)) × ArePieces (take cover.count entries) [] pieces
