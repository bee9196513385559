-- Moments of a history, and how later ones extend earlier ones.
use Rattle.std.specs.Prelude.{◌≡◌, ◌≤◌, ℕ, List, [], ◌∷◌, length, Option, Some, None, slice_get}
use Rattle.plfs_types.specs.declared.entries.Entry.{Entry}
use Rattle.plfs_types.specs.declared.names.Path.{Path}
use Rattle.container_layout.specs.declared.items.Item.{Item}
use Rattle.container_layout.specs.declared.items.Item.TheVariants.{Index, Trunc}
use Rattle.container_layout.specs.Items.{IsItem}
use Rattle.container_layout.specs.Paths.{path_of}
use Rattle.store_api.specs.declared.tree.Room.{Room}
use Rattle.store_api.specs.declared.tree.Tree.{Tree}
use Rattle.store_laws.specs.Files.{file_at}
use Rattle.mount_model.specs.declared.row.Making.{Making}
use Rattle.mount_model.specs.Paths.{index_path, installed_item, installed_of, log_path}
use Rattle.mount_model.specs.State.{State}
use Rattle.mount_model.specs.History.{Event}
use Rattle.mount_sound.specs.Ledger.{Written, Ledger}
use Rattle.mount_sound.specs.Dropping.{bytes_of}
use Rattle.mount_sound.specs.Issued.{issued_after}
use Rattle.mount_sound.specs.Growing.{IssuesMore, Stays}
use Rattle.mount_sound.specs.Sound.{IsSoundFor}
use Rattle.mount_sound.specs.There.{entries_there}

-- a state, and what was issued until then
pub record Moment : Type 0 where
  pub state : State
  pub issued : Ledger

abbrev pub IsSoundAt : Moment → Type 0
IsSoundAt moment = IsSoundFor moment.issued moment.state

abbrev pub next_moment : Moment → Event → Moment
next_moment moment event = record { state = event.after; issued = issued_after moment.issued moment.state event.ask.call event.reply }

-- the moment after the events
abbrev pub moment_after : Moment → List Event → Moment
moment_after moment [] = moment
moment_after moment (event ∷ events) = moment_after (next_moment moment event) events

abbrev pub file_in_room : Option Room → Path → Option (List ℕ)
file_in_room None path = None
file_in_room (Some room) path = file_at room path

abbrev pub file_in_tree : Tree → ℕ → Path → Option (List ℕ)
file_in_tree tree number path = file_in_room (slice_get tree.rooms number) path

abbrev pub file_told : Option Tree → ℕ → Path → Option (List ℕ)
file_told None number path = None
file_told (Some tree) number path = file_in_tree tree number path

-- the bytes of a file, where it is there
abbrev pub file_then : Moment → ℕ → Path → Option (List ℕ)
file_then moment number path = file_told moment.state.store.tree number path

-- the item stood in the room
pub record HadItem (moment : Moment) (room : ℕ) (item : Item) : Type 0 where
  pub is_item : IsItem item
  pub bytes : List ℕ
  pub there : file_then moment room (path_of item) ≡ Some bytes

-- a writer in its room
pub record Dropping : Type 0 where
  pub room : ℕ
  pub host : ℕ
  pub writer : ℕ

-- its host and its writer have the widths that they have in names
abbrev pub IsNamed : Dropping → Type 0
IsNamed d = IsItem (Index d.host d.writer)

-- its index dropping stood in its room
abbrev pub Stood : Moment → Dropping → Type 0
Stood moment d = HadItem moment d.room (Index d.host d.writer)

-- a truncate of this stamp and size stood in the room
abbrev pub HadTrunc : Moment → ℕ → ℕ → ℕ → Type 0
HadTrunc moment room stamp size = HadItem moment room (Trunc stamp size)

-- the writes that the writer had issued
abbrev pub issued_by : Moment → Dropping → List Written
issued_by moment d = moment.issued d.room d.writer

-- its index dropping and its log, where they are there
abbrev pub index_then : Moment → Dropping → Option (List ℕ)
index_then moment d = file_then moment d.room (index_path d.host d.writer)

abbrev pub log_then : Moment → Dropping → Option (List ℕ)
log_then moment d = file_then moment d.room (log_path d.host d.writer)

-- its entries that have landed: the first whole ones of its index dropping that end within its log
abbrev pub landed_by : Moment → Dropping → List Entry
landed_by moment d = entries_there (bytes_of (index_then moment d)) (bytes_of (log_then moment d))

-- how many have landed
abbrev pub landed : Moment → Dropping → ℕ
landed moment d = length (landed_by moment d)

-- A later moment: writers issued no less, what stays stands, no dropping has lost an entry that had landed, no log a
-- byte, and flattened indices and packed ones are as they were.
pub record Grows (old new : Moment) : Type 0 where
  pub issued : IssuesMore old.issued new.issued
  pub stands : (room : ℕ) (item : Item) → Stays item → HadItem old room item → HadItem new room item
  pub landed : (d : Dropping) → IsNamed d → landed old d ≤ landed new d
  pub logs : (d : Dropping) (log : List ℕ) → IsNamed d → log_then old d ≡ Some log → (later : List ℕ) × (log_then new d ≡ Some later) × (length log ≤ length later)
  pub indices : (makes : Making) (room id : ℕ) (bytes : List ℕ) → IsItem (installed_item makes id) → file_then old room (installed_of makes id) ≡ Some bytes → file_then new room (installed_of makes id) ≡ Some bytes
