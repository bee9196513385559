-- Why a call of a sound mount is refused: what its table or its tree has then.
use Rattle.std.specs.Prelude.{◌≡◌, ◌⊎◌, ℕ, List, ◌∷◌, length, Bool, Option, Some, None}
use Rattle.store_api.specs.declared.tree.Tree.{Tree}
use Rattle.store_laws.specs.There.{IsFree, IsRoomOf, LacksFolder, LacksRoom, ListsFolder}
use Rattle.mount_model.specs.declared.call.Call.{Call}
use Rattle.mount_model.specs.declared.call.Call.TheVariants.{Greet, Find, MakeContainer, Rooms, Look, Enter, Floor, MakeHostdir, MakeIndex, MakeLog, Write, Flush, SyncLog, SyncIndex, PutMeta, Exit, Hold, Mark, Move, Release, StartFlat, PutFlat, SyncFlat, InstallFlat, StartPack, SyncDropping, Inspect, Mend, MendMeta, Bury, MendHold}
use Rattle.mount_model.specs.declared.reply.Refusal.{Refusal}
use Rattle.mount_model.specs.declared.reply.Refusal.TheVariants.{Busy, Exists, Held, NoRoom, NotHolder, NotOpen}
use Rattle.mount_model.specs.declared.row.FlatStage.{FlatStage}
use Rattle.mount_model.specs.declared.row.FlatStage.TheVariants.{Begun, Put, Synced}
use Rattle.mount_model.specs.declared.row.Row.{Row}
use Rattle.mount_model.specs.declared.row.Stage.{Stage}
use Rattle.mount_model.specs.declared.row.Stage.TheVariants as stage
use Rattle.mount_model.specs.Entering.{draw_check}
use Rattle.mount_model.specs.Holding.{truncate_check}
use Rattle.mount_model.specs.Leaving.{exit_check, put_meta_check}
use Rattle.mount_model.specs.Making.{room_check}
use Rattle.mount_model.specs.Paths.{Name, open_path}
use Rattle.container_layout.specs.Paths.{openhosts}
use Rattle.mount_model.specs.Recovering.{alive_check, mend_check, mend_hold_check}
use Rattle.mount_model.specs.State.{State}
use Rattle.mount_model.specs.Table.{flattening_of, holder_of, is_live, may_close, only, writer_of}
use Rattle.mount_model.specs.Writing.{write_check}

-- this holds of the tree that the store tells
abbrev pub Shows : State → (Tree → Type 0) → Type 0
Shows old holds = (tree : Tree) → old.store.tree ≡ Some tree → holds tree

-- the check gives this reason
abbrev pub IsChecked : Option Refusal → Refusal → Type 0
IsChecked check why = check ≡ Some why

-- there is no room of this number
abbrev pub LacksIt : State → ℕ → Refusal → Type 0
LacksIt old room why = (why ≡ NoRoom) × Shows old (λ tree. LacksRoom tree room)

-- the caller has no writer of this id in one of these stages
abbrev pub HasNoWriter : ℕ → (Stage → Bool) → ℕ → State → Refusal → Type 0
HasNoWriter caller stages writer old why = (why ≡ NotOpen) × (writer_of caller stages writer old.table.writers ≡ None)

-- it has one, against which there is this reason
abbrev pub HasWriterSo : ℕ → (Stage → Bool) → ℕ → State → (Row → Option Refusal) → Refusal → Type 0
HasWriterSo caller stages writer old check why = (row : Row) × (writer_of caller stages writer old.table.writers ≡ Some row) × IsChecked (check row) why

-- it has no hold of this number
abbrev pub HasNoHold : ℕ → ℕ → State → Refusal → Type 0
HasNoHold caller holder old why = (why ≡ NotHolder) × (holder_of caller holder old.table.holders ≡ None)

-- nor a flattening of this id in this stage
abbrev pub HasNoFlattening : ℕ → FlatStage → ℕ → State → Refusal → Type 0
HasNoFlattening caller stage flat old why = (why ≡ NotOpen) × (flattening_of caller stage flat old.table.flattenings ≡ None)

-- nobody can open the room
abbrev pub IsShut : State → ℕ → Refusal → Type 0
IsShut old room why = (why ≡ Held) × Shows old (λ tree. LacksFolder tree room openhosts)

-- a writer has the room open, and its entry is the least of those that do
abbrev pub IsOpenBy : State → ℕ → Refusal → Type 0
IsOpenBy old room why = (host : ℕ) × (writer : ℕ) × (why ≡ Busy host writer) × Shows old (λ tree. (later : List Name) × ListsFolder tree room openhosts ((open_path host writer).file ∷ later))

-- One line for each call: these reasons it has, and no others.
abbrev pub HasReason : State → ℕ → Call → Refusal → Type 0
HasReason old caller Greet why = ⊥
HasReason old caller (Find name) why = (why ≡ NoRoom) × Shows old (λ tree. IsFree tree name)
HasReason old caller (MakeContainer name) why = ⊥
HasReason old caller Rooms why = ⊥
HasReason old caller (Look room look) why = IsChecked (room_check old room) why ⊎ LacksIt old room why
HasReason old caller (Enter room host cap) why = IsChecked (draw_check old room) why ⊎ LacksIt old room why ⊎ IsShut old room why
HasReason old caller (Floor writer) why = HasNoWriter caller (only stage.Entered) writer old why
HasReason old caller (MakeHostdir writer) why = HasNoWriter caller (only stage.Floored) writer old why
HasReason old caller (MakeIndex writer) why = HasNoWriter caller (only stage.Housed) writer old why
HasReason old caller (MakeLog writer) why = HasNoWriter caller (only stage.Indexed) writer old why
HasReason old caller (Write writer at block) why = HasNoWriter caller (only stage.Open) writer old why ⊎ HasWriterSo caller (only stage.Open) writer old (λ row. write_check row at (length block)) why
HasReason old caller (Flush writer) why = HasNoWriter caller (only stage.Open) writer old why
HasReason old caller (SyncLog writer) why = HasNoWriter caller (only stage.Open) writer old why
HasReason old caller (SyncIndex writer) why = HasNoWriter caller (only stage.Open) writer old why
HasReason old caller (PutMeta writer) why = HasNoWriter caller may_close writer old why ⊎ HasWriterSo caller may_close writer old put_meta_check why
HasReason old caller (Exit writer) why = HasNoWriter caller is_live writer old why ⊎ HasWriterSo caller is_live writer old exit_check why
HasReason old caller (Hold room) why = IsChecked (draw_check old room) why ⊎ LacksIt old room why ⊎ IsShut old room why ⊎ IsOpenBy old room why
HasReason old caller (Mark holder size top) why = HasNoHold caller holder old why ⊎ IsChecked (truncate_check size top) why
HasReason old caller (Move holder to) why = HasNoHold caller holder old why ⊎ ((why ≡ Exists) × Shows old (λ tree. (other : ℕ) × IsRoomOf tree to other))
HasReason old caller (Release holder) why = HasNoHold caller holder old why
HasReason old caller (StartFlat room) why = IsChecked (draw_check old room) why ⊎ LacksIt old room why
HasReason old caller (PutFlat flat bytes) why = HasNoFlattening caller Begun flat old why
HasReason old caller (SyncFlat flat) why = HasNoFlattening caller Put flat old why
HasReason old caller (InstallFlat flat) why = HasNoFlattening caller Synced flat old why
HasReason old caller (StartPack room host writer) why = IsChecked (draw_check old room) why
HasReason old caller (SyncDropping room host writer is_log) why = IsChecked (room_check old room) why
HasReason old caller (Inspect writer) why = IsChecked (alive_check old writer) why
HasReason old caller (Mend room host writer count) why = IsChecked (mend_check old room writer) why
HasReason old caller (MendMeta room host cover last) why = IsChecked (mend_check old room cover.writer) why
HasReason old caller (Bury room host writer) why = IsChecked (mend_check old room writer) why ⊎ LacksIt old room why
HasReason old caller (MendHold room) why = IsChecked (mend_hold_check old room) why ⊎ LacksIt old room why
