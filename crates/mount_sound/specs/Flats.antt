-- Flattened indices, and packed ones, that are right for a room.
use Rattle.std.specs.Prelude.{◌≡◌, ◌≤◌, ℕ, List, [], ◌∷◌, ◌++◌, length, take, Some, None, slice_get}
use Rattle.plfs_types.specs.declared.entries.Cover.{Cover}
use Rattle.plfs_types.specs.declared.entries.Entry.{Entry}
use Rattle.plain_file.specs.Runs.{ArePieces}
use Rattle.container_layout.specs.declared.items.Item.TheVariants.{Index}
use Rattle.flat_format.specs.declared.flat.Flat.{Flat}
use Rattle.flat_format.specs.Valid.{IsFlat}
use Rattle.flat_format.specs.Spelling.{flat_spelling}
use Rattle.index_pack.specs.Spelling.{Packs}
use Rattle.store_api.specs.declared.tree.Room.{Room}
use Rattle.store_api.specs.declared.tree.Tree.{Tree}
use Rattle.store_laws.specs.Files.{file_at, kept_at}
use Rattle.mount_model.specs.declared.row.Flattening.{Flattening}
use Rattle.mount_model.specs.declared.row.Making.{Making}
use Rattle.mount_model.specs.declared.row.Making.TheVariants as making
use Rattle.mount_model.specs.Paths.{flat_path, installed_item, installed_of, temporary}
use Rattle.mount_model.specs.Table.{flat_rank, flattening_at}
use Rattle.mount_sound.specs.Entries.{last_stamp, logged}
use Rattle.mount_sound.specs.Items.{HasItem, HasMeta}
use Rattle.mount_sound.specs.There.{landed_entries}
use Rattle.mount_sound.specs.Keeping.{kept_in}

-- the first of a writer's entries that have landed
abbrev pub covered_entries : Room → ℕ → Cover → List Entry
covered_entries room host c = take c.count (landed_entries room host c.writer)

-- The cover is of the writer's first entries: they have landed, it tells of them, and no loss of power takes them or
-- their bytes.
pub record IsCovered (room : Room) (c : Cover) : Type 0 where
  pub host : ℕ
  pub content : List ℕ
  pub stands : HasItem room (Index host c.writer) content
  pub kept : c.count ≤ kept_in room host c.writer
  pub sum : c.bytes ≡ logged (covered_entries room host c)
  pub latest : c.stamp ≡ last_stamp 0 (covered_entries room host c)

-- these are the covered entries, cover by cover
abbrev pub AreCovered : Room → List Cover → List Entry → Type 0
AreCovered room [] entries = entries ≡ []
AreCovered room (c ∷ covers) entries =
    (is : IsCovered room c) × ((rest : List Entry) × (entries ≡ covered_entries room is.host c ++ rest) × AreCovered room covers rest)

-- The bytes are a flattened index that is right for the room: its pieces are those of the covered entries.
pub record IsRightFlat (room : Room) (bytes : List ℕ) : Type 0 where
  pub flat : Flat
  pub valid : IsFlat flat
  pub spelled : bytes ≡ flat_spelling flat
  pub entries : List Entry
  pub covered : AreCovered room flat.covers entries
  pub pieces : ArePieces entries [] flat.pieces

-- The bytes are the packed index of all entries of a writer that have landed. No more will, since it has left: the
-- metadata dropping, which is of the same host, tells of them.
pub record IsRightPack (room : Room) (host writer : ℕ) (bytes : List ℕ) : Type 0 where
  pub content : List ℕ
  pub stands : HasItem room (Index host writer) content
  pub left : HasMeta room host writer
  pub packs : Packs bytes (landed_entries room host writer)

-- the bytes are right for what is made of them
abbrev pub IsRightFor : Room → Making → List ℕ → Type 0
IsRightFor room making.Flat bytes = IsRightFlat room bytes
IsRightFor room (making.Pack host writer) bytes = IsRightPack room host writer bytes

-- what a flattening of this id begins with: no flattened index has its id yet, or the index dropping stands that it packs
abbrev pub IsBegunIn : Room → Making → ℕ → Type 0
IsBegunIn room making.Flat id = file_at room (flat_path id) ≡ None
IsBegunIn room (making.Pack host writer) id = (content : List ℕ) × HasItem room (Index host writer) content

-- what stands of a flattening in its room, by its stage
pub record IsFlatteningIn (room : Room) (f : Flattening) : Type 0 where
  pub begun : IsBegunIn room f.makes f.id
  pub bytes : List ℕ
  pub there : file_at room (temporary f) ≡ Some bytes
  pub put : 1 ≤ flat_rank f.stage → IsRightFor room f.makes bytes
  pub synced : 2 ≤ flat_rank f.stage → length bytes ≤ kept_at room (temporary f)

-- each flattened index and each packed one is right for its room, and no loss of power takes a byte of it
abbrev pub AreRightFlats : Tree → Type 0
AreRightFlats tree = (number : ℕ) (room : Room) → slice_get tree.rooms number ≡ Some room → (makes : Making) (id : ℕ) (bytes : List ℕ) → HasItem room (installed_item makes id) bytes
    → IsRightFor room makes bytes × (length bytes ≤ kept_at room (installed_of makes id))

-- each flattening is of a room that is there, and what stands of it is right
abbrev pub AreBeingMade : List Flattening → Tree → Type 0
AreBeingMade flattenings tree = (id : ℕ) (f : Flattening) → flattening_at id flattenings ≡ Some f
    → (room : Room) × (slice_get tree.rooms f.room ≡ Some room) × IsFlatteningIn room f
