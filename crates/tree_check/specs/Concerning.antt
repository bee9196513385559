-- Of which item of a container a complaint is.
use Rattle.std.specs.Prelude.{◌≡◌, ◌⊎◌, ℕ, Bool, true, false, List, Option, Some, None, slice_get}
use Rattle.plfs_types.specs.declared.entries.Cover.{Cover}
use Rattle.plfs_types.specs.declared.names.Path.{Path}
use Rattle.container_layout.specs.declared.items.Item.{Item}
use Rattle.container_layout.specs.declared.items.Item.TheVariants as item
use Rattle.container_layout.specs.Paths.{IsAt}
use Rattle.flat_format.specs.declared.flat.Flat.{Flat}
use Rattle.flat_format.specs.Spelling.{SpellsFlat}
use Rattle.flat_format.specs.Valid.{IsFlat}
use Rattle.store_api.specs.declared.tree.Room.{Room}
use Rattle.store_laws.specs.Files.{file_at}
use Rattle.mount_model.specs.Paths.{index_path}
use Rattle.mount_sound.specs.Items.{HasMeta}
use Rattle.shape_check.specs.declared.finding.Complaint.{Complaint}
use Rattle.shape_check.specs.declared.finding.Complaint.TheVariants as kind

-- the path of the file that it is of, if it is of one
abbrev pub file_of : Complaint → Option Path
file_of (kind.RoomName room) = None
file_of (kind.NoFolder room folder) = None
file_of (kind.NoAccess room) = None
file_of (kind.ForeignFolder room folder) = None
file_of (kind.Foreign room path) = Some path
file_of (kind.NoMark path) = Some path
file_of (kind.Filled room path) = Some path
file_of (kind.Unmarked room path) = Some path
file_of (kind.TwoHosts room writer) = None
file_of (kind.Entry room path place) = Some path
file_of (kind.LongLog room path) = Some path
file_of (kind.Unaccounted room path) = Some path
file_of (kind.Untrue room path) = Some path
file_of (kind.Unsettled room path) = Some path
file_of (kind.Between room path stamp) = Some path
file_of (kind.TwoTruncates room stamp) = None
file_of (kind.WrongIndex room path) = Some path

-- whether it is that entries don't follow each other, or are too long for a log
abbrev pub is_of_entries : Complaint → Bool
is_of_entries (kind.Entry room path place) = true
is_of_entries (kind.LongLog room path) = true
is_of_entries _ = false

-- it is of the file at this path
abbrev pub IsOfFile : Path → Complaint → Type 0
IsOfFile path complaint = file_of complaint ≡ Some path

-- it is of the entries of the index dropping at this path
abbrev pub IsOfEntries : Path → Complaint → Type 0
IsOfEntries path complaint = IsOfFile path complaint × (is_of_entries complaint ≡ true)

-- it is of the entries of this writer, or of one that is covered
abbrev pub IsOfWriter : ℕ → Complaint → Type 0
IsOfWriter writer complaint = (host : ℕ) × IsOfEntries (index_path host writer) complaint

abbrev pub IsOfCover : List Cover → Complaint → Type 0
IsOfCover covers complaint = (number : ℕ) × (cover : Cover) × (slice_get covers number ≡ Some cover) × IsOfWriter cover.writer complaint

-- the file at this path is a flattened index, and it is of the entries of a writer that is covered there
pub record IsOfCovered (path : Path) (room : Room) (complaint : Complaint) : Type 0 where
  pub bytes : List ℕ
  pub there : file_at room path ≡ Some bytes
  pub flat : Flat
  pub valid : IsFlat flat
  pub spells : SpellsFlat bytes flat
  pub covered : IsOfCover flat.covers complaint

-- ---- by the kind of the item

-- of a metadata dropping, or of the index dropping that it tells of
abbrev pub IsOfLeft : Path → ℕ → ℕ → Complaint → Type 0
IsOfLeft path host writer complaint = IsOfFile path complaint ⊎ IsOfFile (index_path host writer) complaint

-- of a packed index, or of the entries that it packs
abbrev pub IsOfPack : Path → ℕ → ℕ → Complaint → Type 0
IsOfPack path host writer complaint = IsOfFile path complaint ⊎ IsOfEntries (index_path host writer) complaint

-- of a flattened index, or of the entries that it covers
abbrev pub IsOfFlat : Path → Room → Complaint → Type 0
IsOfFlat path room complaint = IsOfFile path complaint ⊎ IsOfCovered path room complaint

-- It is of the item at this path. What is wrong with the index dropping of a writer that left is told of its metadata dropping.
abbrev pub IsOfItem : Path → Item → Room → Complaint → Type 0
IsOfItem path (item.Meta last bytes stamp host writer) room complaint = IsOfLeft path host writer complaint
IsOfItem path (item.Index host writer) room complaint = IsOfFile path complaint × (HasMeta room host writer → ⊥)
IsOfItem path (item.Packed host writer) room complaint = IsOfPack path host writer complaint
IsOfItem path (item.Flat id) room complaint = IsOfFlat path room complaint
IsOfItem path item.Access room complaint = ⊥
IsOfItem path (item.OpenHost host writer) room complaint = ⊥
IsOfItem path (item.Trunc stamp size) room complaint = ⊥
IsOfItem path (item.TmpFlat id) room complaint = ⊥
IsOfItem path (item.Log host writer) room complaint = ⊥
IsOfItem path (item.TmpPacked host id) room complaint = ⊥

abbrev pub IsOfItemAt : Path → Room → Complaint → Type 0
IsOfItemAt path room complaint = (it : Item) × IsAt path it × IsOfItem path it room complaint
