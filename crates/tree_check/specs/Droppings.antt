-- An index dropping that was read, and what is judged of its writer.
use Rattle.std.specs.Prelude.{◌≡◌, ◌⊎◌, ℕ, ◌*◌, ◌≤◌, ◌<◌, List, [], ◌∷◌, length, take, Option, Some, None}
use Rattle.plfs_types.specs.declared.limits.TheConstants.{ENTRY_SIZE}
use Rattle.plfs_types.specs.declared.entries.Entry.{Entry}
use Rattle.plfs_types.specs.declared.entries.Trunc.{Trunc}
use Rattle.plfs_types.specs.declared.names.Path.{Path}
use Rattle.index_entry.specs.Records.{IsBytes}
use Rattle.store_api.specs.declared.tree.Room.{Room}
use Rattle.store_api.specs.declared.tree.Tree.{Tree}
use Rattle.store_api.specs.Acts.{Stored}
use Rattle.store_laws.specs.Files.{file_at}
use Rattle.mount_model.specs.Paths.{Name, index_path}
use Rattle.mount_sound.specs.Dropping.{bytes_of, log_bytes, AreBeside, IsToldOf}
use Rattle.tree_laws.specs.Checked.{whole_entries}
use Rattle.shape_check.specs.declared.files.Place.{Place}
use Rattle.shape_check.specs.declared.finding.Complaint.TheVariants.{Between, Untrue, Unsettled}
use Rattle.shape_check.specs.declared.finding.Finding.{Finding}
use Rattle.shape_check.specs.declared.finding.Finding.TheVariants.{Broken}
use Rattle.shape_check.specs.Files.{OfPlace}
use Rattle.tree_check.specs.declared.droppings.Dropping.{Dropping}
use Rattle.tree_check.specs.declared.droppings.Left.{Left}
use Rattle.tree_check.specs.declared.droppings.Read.{Read}
use Rattle.tree_check.specs.Entries.{AreInOrder, ends_within}

-- the dropping is what these bytes are, beside a log of so many
pub record IsReadAs (writer : ℕ) (bytes : List ℕ) (log : ℕ) (dropping : Dropping) : Type 0 where
  pub size : dropping.size ≡ length bytes
  pub are_bytes : IsBytes bytes
  pub are : dropping.entries ≡ whole_entries bytes
  pub fine : AreInOrder writer dropping.entries
  pub landed_are : dropping.landed ≡ ends_within log dropping.entries
  pub within : dropping.landed ≤ length dropping.entries

-- the dropping has this length and these entries, beside a log of so many bytes
pub record IsMadeOf (writer size : ℕ) (entries : List Entry) (log : ℕ) (dropping : Dropping) : Type 0 where
  pub size_is : dropping.size ≡ size
  pub are : dropping.entries ≡ entries
  pub fine : AreInOrder writer dropping.entries
  pub landed_are : dropping.landed ≡ ends_within log dropping.entries
  pub within : dropping.landed ≤ length dropping.entries

-- its entries are in order, and no more of them have landed
pub record IsOrderly (writer : ℕ) (dropping : Dropping) : Type 0 where
  pub fine : AreInOrder writer dropping.entries
  pub within : dropping.landed ≤ length dropping.entries

-- the dropping is what the room has of this writer, where a missing file counts as empty
abbrev pub IsDroppingOf : ℕ → ℕ → Dropping → Tree → Room → Type 0
IsDroppingOf host writer dropping tree room = IsReadAs writer (bytes_of (file_at room (index_path host writer))) (length (log_bytes room host writer)) dropping

-- the dropping that is kept, if one is, is what the room has of its writer
abbrev pub IsKept : Place → Option Read → Stored → Type 0
IsKept place None stored = Unit {0}
IsKept place (Some read) stored = IsOrderly read.writer read.dropping × OfPlace (IsDroppingOf read.host read.writer read.dropping) place stored

-- what was read, if anything was, is what the room has of this writer
abbrev pub IsReadFor : Place → ℕ → Option Read → Stored → Type 0
IsReadFor place writer None stored = Unit {0}
IsReadFor place writer (Some read) stored = (read.writer ≡ writer) × IsKept place (Some read) stored

-- this one of the writer was kept
abbrev pub WasKept : ℕ → ℕ → Option Read → Dropping → Type 0
WasKept host writer kept dropping = kept ≡ Some (record { host = host; writer = writer; dropping = dropping })

-- those of its entries that have landed
abbrev pub landed_of : Dropping → List Entry
landed_of dropping = take dropping.landed dropping.entries

-- the truncate is one of these
abbrev pub IsTruncOf : List Trunc → Trunc → Type 0
IsTruncOf [] trunc = ⊥
IsTruncOf (first ∷ truncs) trunc = (first ≡ trunc) ⊎ IsTruncOf truncs trunc

-- none of the truncates is between two of the entries
abbrev pub AreBesideAll : List Trunc → List Entry → Type 0
AreBesideAll truncs entries = (trunc : Trunc) → IsTruncOf truncs trunc → AreBeside trunc.stamp entries

-- one of the truncates is
abbrev pub IsBetween : Name → ℕ → ℕ → List Entry → List Trunc → Finding → Type 0
IsBetween room host writer entries truncs finding =
    (trunc : Trunc) × IsTruncOf truncs trunc × (finding ≡ Broken (Between room (index_path host writer) trunc.stamp)) × (AreBeside trunc.stamp entries → ⊥)

-- the truncate's stamp is from the first to the last one
abbrev pub IsFromTo : ℕ → ℕ → Trunc → Type 0
IsFromTo first last trunc = (first ≤ trunc.stamp) × (trunc.stamp ≤ last)

-- no stamp is from the first to the last one
abbrev pub AreOutside : ℕ → ℕ → List Trunc → Type 0
AreOutside first last truncs = (trunc : Trunc) → IsTruncOf truncs trunc → (last < trunc.stamp) ⊎ (trunc.stamp < first)

-- one is
abbrev pub IsInside : Name → ℕ → ℕ → ℕ → ℕ → List Trunc → Finding → Type 0
IsInside room host writer first last truncs finding =
    (trunc : Trunc) × IsTruncOf truncs trunc × (finding ≡ Broken (Between room (index_path host writer) trunc.stamp)) × (first ≤ trunc.stamp) × (trunc.stamp ≤ last)

-- the metadata dropping tells of the landed entries, and the index dropping is as long as these
pub record IsLeftRight (left : Left) (dropping : Dropping) : Type 0 where
  pub told : IsToldOf left.last left.bytes left.stamp (landed_of dropping)
  pub exact : dropping.size ≡ ENTRY_SIZE * dropping.landed

-- it doesn't, or the index dropping isn't
abbrev pub IsLeftWrong : Name → Path → Left → Dropping → Finding → Type 0
IsLeftWrong room path left dropping finding =
    ((finding ≡ Broken (Untrue room path)) × (IsToldOf left.last left.bytes left.stamp (landed_of dropping) → ⊥))
    ⊎ ((finding ≡ Broken (Unsettled room (index_path left.host left.writer))) × (dropping.size ≡ ENTRY_SIZE * dropping.landed → ⊥))
