-- What a checker complains of, and when it is right.
use Rattle.std.specs.Prelude.{◌≡◌, ◌≢◌, ◌⊎◌, ℕ, ◌+◌, ◌*◌, ◌≤◌, ◌<◌, List, [], take, length, false, true, Some, None, slice_get}
use Rattle.plfs_types.specs.declared.limits.TheConstants.{ENTRY_SIZE, MAX_LOG}
use Rattle.plfs_types.specs.declared.names.Path.{Path}
use Rattle.plfs_types.specs.Names.{IsLogicalName}
use Rattle.container_layout.specs.declared.items.Item.{Item}
use Rattle.container_layout.specs.declared.items.Item.TheVariants.{Index, Meta, Trunc}
use Rattle.container_layout.specs.Paths.{IsAt, path_of}
use Rattle.store_api.specs.declared.tree.Room.{Room}
use Rattle.store_api.specs.declared.tree.Tree.{Tree}
use Rattle.store_api.specs.Room.{has_folder}
use Rattle.store_laws.specs.Files.{file_at, kept_at}
use Rattle.mount_model.specs.Paths.{Name, open_path, index_path, installed_item, installed_of, access_path, metadata, truncs, flats}
use Rattle.store_api.specs.Names.{marks_folder}
use Rattle.store_api.specs.Names.{marks_name}
use Rattle.mount_model.specs.declared.row.Making.{Making}
use Rattle.mount_sound.specs.Container.{IsContainerFolder, MayHold, IsOfId}
use Rattle.mount_sound.specs.Marks.{IsMarkFile, IsOfMark}
use Rattle.mount_sound.specs.Entries.{AreEntriesOf, logged}
use Rattle.mount_sound.specs.Dropping.{IsKeptWhole, IsToldOf, AreBeside}
use Rattle.mount_sound.specs.Flats.{IsRightFor}
use Rattle.mount_sound.specs.Items.{HasItem, HasMeta, HasItemOf}
use Rattle.mount_sound.specs.Landed.{whole}
use Rattle.mount_sound.specs.There.{landed_entries, landed_in}
use Rattle.tree_laws.specs.Checked.{whole_entries}

-- What is wrong, of the room of this name, and mostly of a file there.
pub data Complaint : Type 0 where
  -- no room may have the name
  room_name : Name → Complaint
  -- the room lacks a folder, or the container its file `access`
  no_folder : Name → Name → Complaint
  no_access : Name → Complaint
  -- no room of its kind has such a folder, and no container such a file
  foreign_folder : Name → Name → Complaint
  foreign : Name → Path → Complaint
  -- the file in the room of marks is no empty mark
  no_mark : Path → Complaint
  -- the file has bytes, and may have none
  filled : Name → Path → Complaint
  -- no mount with a mark has drawn the id
  unmarked : Name → Path → Complaint
  -- the writer's items are of several hosts
  two_hosts : Name → ℕ → Complaint
  -- the entry at this byte of the index dropping may not follow those before it
  entry : Name → Path → ℕ → Complaint
  -- its entries have more bytes than a log
  long_log : Name → Path → Complaint
  -- entries of the writer have landed, and it has neither an `openhosts` entry nor a metadata dropping
  unaccounted : Name → Path → Complaint
  -- the metadata dropping tells something else than the entries that have landed
  untrue : Name → Path → Complaint
  -- its writer has a metadata dropping, and this index dropping is not just its landed entries, or not all is kept
  unsettled : Name → Path → Complaint
  -- the truncate of this stamp is between two of its entries, or has the stamp of one
  between : Name → Path → ℕ → Complaint
  -- two truncates have the stamp
  two_truncates : Name → ℕ → Complaint
  -- the flattened index, or the packed one, is not right for the container
  wrong_index : Name → Path → Complaint
  -- a loss of power takes bytes of it
  unkept : Name → Path → Complaint

-- it is so in the room of this name
abbrev pub InRoomOf : Tree → Name → (Room → Type 0) → Type 0
InRoomOf tree name P = (number : ℕ) × (room : Room) × (slice_get tree.rooms number ≡ Some room) × (room.name ≡ name) × P room

-- the same in a container
abbrev pub InContainer : Tree → Name → (Room → Type 0) → Type 0
InContainer tree name P = (name ≢ marks_name) × InRoomOf tree name P

-- it is so of an index dropping at this path
abbrev pub OfIndex : Tree → Name → Path → (Room → ℕ → ℕ → List ℕ → Type 0) → Type 0
OfIndex tree name path P =
    InRoomOf tree name (λ room. (host : ℕ) × (writer : ℕ) × (bytes : List ℕ) × (path ≡ index_path host writer) × HasItem room (Index host writer) bytes × P room host writer bytes)

-- it is so of a flattened index, or of a packed one, at this path
abbrev pub OfInstalled : Tree → Name → Path → (Room → Making → List ℕ → Type 0) → Type 0
OfInstalled tree name path P =
    InRoomOf tree name (λ room. (makes : Making) × (id : ℕ) × (bytes : List ℕ) × (path ≡ installed_of makes id) × HasItem room (installed_item makes id) bytes × P room makes bytes)

-- the room of marks has the folder, or every container
abbrev pub IsNeeded : Name → Name → Type 0
IsNeeded name folder = ((name ≡ marks_name) × (folder ≡ marks_folder)) ⊎ ((name ≢ marks_name) × ((folder ≡ metadata) ⊎ (folder ≡ truncs) ⊎ (folder ≡ flats)))

-- the room of marks may have the folder, or a container
abbrev pub IsAllowed : Name → Name → Type 0
IsAllowed name folder = ((name ≡ marks_name) × ((folder ≡ []) ⊎ (folder ≡ marks_folder))) ⊎ ((name ≢ marks_name) × IsContainerFolder folder)

-- the complaint is right
abbrev pub IsBroken : Tree → Complaint → Type 0
IsBroken tree (room_name name) = InContainer tree name (λ room. IsLogicalName name → ⊥)
IsBroken tree (no_folder name folder) = InRoomOf tree name (λ room. (has_folder room folder ≡ false) × IsNeeded name folder)
IsBroken tree (no_access name) = InContainer tree name (λ room. file_at room access_path ≡ None)
IsBroken tree (foreign_folder name folder) = InRoomOf tree name (λ room. (has_folder room folder ≡ true) × (IsAllowed name folder → ⊥))
IsBroken tree (foreign name path) = InContainer tree name (λ room. (bytes : List ℕ) × (file_at room path ≡ Some bytes) × ((item : Item) → IsAt path item → ⊥))
IsBroken tree (no_mark path) = InRoomOf tree marks_name (λ room. (bytes : List ℕ) × (file_at room path ≡ Some bytes) × (IsMarkFile path bytes → ⊥))
IsBroken tree (filled name path) = InContainer tree name (λ room. (bytes : List ℕ) × (item : Item) × (file_at room path ≡ Some bytes) × IsAt path item × (MayHold item bytes → ⊥))
IsBroken tree (unmarked name path) = InContainer tree name (λ room. (bytes : List ℕ) × (item : Item) × (file_at room path ≡ Some bytes) × IsAt path item × (IsOfId (IsOfMark tree) item → ⊥))
IsBroken tree (two_hosts name writer) = InRoomOf tree name (λ room. (host : ℕ) × (other : ℕ) × HasItemOf room host writer × HasItemOf room other writer × (other ≢ host))
IsBroken tree (entry name path place) = OfIndex tree name path (λ room host writer bytes. (k : ℕ) × (place ≡ ENTRY_SIZE * k) × (k < whole bytes)
    × AreEntriesOf writer 0 0 (take k (whole_entries bytes)) × (AreEntriesOf writer 0 0 (take (k + 1) (whole_entries bytes)) → ⊥))
IsBroken tree (long_log name path) = OfIndex tree name path (λ room host writer bytes. MAX_LOG < logged (whole_entries bytes))
IsBroken tree (unaccounted name path) = OfIndex tree name path (λ room host writer bytes. (file_at room (open_path host writer) ≡ None) × (1 ≤ landed_in room host writer) × (HasMeta room host writer → ⊥))
IsBroken tree (untrue name path) = InRoomOf tree name (λ room. (last : ℕ) × (bytes : ℕ) × (stamp : ℕ) × (host : ℕ) × (writer : ℕ) × (content : List ℕ) × (path ≡ path_of (Meta last bytes stamp host writer))
    × HasItem room (Meta last bytes stamp host writer) content × (IsToldOf last bytes stamp (landed_entries room host writer) → ⊥))
IsBroken tree (unsettled name path) = OfIndex tree name path (λ room host writer bytes. HasMeta room host writer × (IsKeptWhole room host writer (landed_entries room host writer) → ⊥))
IsBroken tree (between name path stamp) = OfIndex tree name path (λ room host writer bytes. (size : ℕ) × (content : List ℕ) × HasItem room (Trunc stamp size) content × (AreBeside stamp (landed_entries room host writer) → ⊥))
IsBroken tree (two_truncates name stamp) = InRoomOf tree name (λ room. (size : ℕ) × (other : ℕ) × (a : List ℕ) × (b : List ℕ) × HasItem room (Trunc stamp size) a × HasItem room (Trunc stamp other) b × (size ≢ other))
IsBroken tree (wrong_index name path) = OfInstalled tree name path (λ room makes bytes. IsRightFor room makes bytes → ⊥)
IsBroken tree (unkept name path) = OfInstalled tree name path (λ room makes bytes. kept_at room path < length bytes)
