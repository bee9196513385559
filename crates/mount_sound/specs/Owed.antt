-- What the caller of a call owes, and histories in which no caller owed more than it met.
use Rattle.std.specs.Prelude.{◌≡◌, ◌⊎◌, ℕ, ◌*◌, ◌≤◌, List, [], ◌∷◌, length, Bool, false, Some, slice_get, if◌then◌else◌}
use Rattle.std.specs.List.{AllByRecursion}
use Rattle.plfs_types.specs.declared.entries.Cover.{Cover}
use Rattle.plfs_types.specs.declared.entries.Entry.{Entry}
use Rattle.plfs_types.specs.declared.limits.TheConstants.{ENTRY_SIZE}
use Rattle.container_layout.specs.declared.items.Item.TheVariants.{Index, Log, Trunc}
use Rattle.store_api.specs.declared.tree.Room.{Room}
use Rattle.store_api.specs.declared.tree.Tree.{Tree}
use Rattle.store_laws.specs.Files.{file_at, kept_at}
use Rattle.mount_model.specs.declared.call.Ask.{Ask}
use Rattle.mount_model.specs.declared.call.Call.{Call}
use Rattle.mount_model.specs.declared.call.Call.TheVariants.{Mark, PutFlat, StartPack, SyncDropping, Mend, MendMeta, Bury}
use Rattle.mount_model.specs.declared.row.Row.{Row}
use Rattle.mount_model.specs.declared.row.Holder.{Holder}
use Rattle.mount_model.specs.declared.row.Flattening.{Flattening}
use Rattle.mount_model.specs.declared.row.FlatStage.TheVariants.{Begun}
use Rattle.mount_model.specs.Paths.{index_path, log_path, temporary}
use Rattle.mount_model.specs.Table.{row_of, is_live, holder_of, flattening_of}
use Rattle.mount_model.specs.State.{State, last_id}
use Rattle.mount_model.specs.Step.{IsOwed, IsStep}
use Rattle.mount_model.specs.History.{Event}
use Rattle.mount_sound.specs.Items.{HasItem, HasMeta}
use Rattle.mount_sound.specs.Dropping.{IsToldOf}
use Rattle.mount_sound.specs.Landed.{whole}
use Rattle.mount_sound.specs.There.{landed_entries, landed_in}
use Rattle.mount_sound.specs.Flats.{IsRightFor}
use Rattle.mount_sound.specs.Sound.{IsClean, IsFine}

-- of the room of this number, as the store tells it
abbrev pub InRoom : State → ℕ → (Room → Type 0) → Type 0
InRoom state number holds = (tree : Tree) (room : Room) → state.store.tree ≡ Some tree → slice_get tree.rooms number ≡ Some room → holds room

-- the room of this number is there, as the store tells it, and this holds of it
abbrev pub StandsInRoom : State → ℕ → (Room → Type 0) → Type 0
StandsInRoom state number holds = (tree : Tree) → state.store.tree ≡ Some tree → (room : Room) × (slice_get tree.rooms number ≡ Some room) × holds room

-- the writer isn't live in the table
abbrev pub IsNotLive : State → ℕ → Type 0
IsNotLive state writer = (row : Row) → row_of writer state.table.writers ≡ Some row → is_live row.stage ≡ false

-- no truncate of the room, and no entry that has landed in it, has a later stamp
pub record IsTop (room : Room) (top : ℕ) : Type 0 where
  pub truncates : (stamp size : ℕ) (content : List ℕ) → HasItem room (Trunc stamp size) content → stamp ≤ top
  pub entries : (host writer : ℕ) (content : List ℕ) → HasItem room (Index host writer) content → AllByRecursion (λ (e : Entry). e.stamp ≤ top) (landed_entries room host writer)

-- the temporary file is empty yet, and the bytes are right for the room
pub record MayPut (f : Flattening) (bytes : List ℕ) (room : Room) : Type 0 where
  pub empty : file_at room (temporary f) ≡ Some []
  pub right : IsRightFor room f.makes bytes

-- the writer's log is there, or its index dropping
abbrev pub HasDropping : ℕ → ℕ → Bool → Room → Type 0
HasDropping host writer is_log room = (content : List ℕ) × HasItem room (if is_log then Log host writer else Index host writer) content

-- the index dropping is there, and so many of its entries have landed
pub record MayMend (host writer count : ℕ) (room : Room) : Type 0 where
  pub content : List ℕ
  pub stands : HasItem room (Index host writer) content
  pub landed : count ≡ landed_in room host writer

-- the index dropping is exactly its landed entries, of which the cover and the greatest end tell, and no loss of power
-- takes them or their bytes
pub record MayMendMeta (host : ℕ) (cover : Cover) (last : ℕ) (room : Room) : Type 0 where
  pub content : List ℕ
  pub stands : HasItem room (Index host cover.writer) content
  pub some : 1 ≤ cover.count
  pub all : cover.count ≡ landed_in room host cover.writer
  pub told : IsToldOf last cover.bytes cover.stamp (landed_entries room host cover.writer)
  pub exact : length content ≡ ENTRY_SIZE * cover.count
  pub index_kept : length content ≤ kept_at room (index_path host cover.writer)
  pub log_kept : cover.bytes ≤ kept_at room (log_path host cover.writer)

-- the writer has its metadata dropping, or no whole entry
abbrev pub MayBury : ℕ → ℕ → Room → Type 0
MayBury host writer room =
    HasMeta room host writer
    ⊎ ((other : ℕ) (content : List ℕ) → HasItem room (Index other writer) content → whole content ≡ 0)

-- What is owed of the state.
abbrev pub Owes : State → ℕ → Call → Type 0
Owes state caller (Mark holder size top) = (h : Holder) → holder_of caller holder state.table.holders ≡ Some h → InRoom state h.room (λ room. IsTop room top)
Owes state caller (PutFlat flat bytes) = (f : Flattening) → flattening_of caller Begun flat state.table.flattenings ≡ Some f → InRoom state f.room (MayPut f bytes)
Owes state caller (StartPack room host writer) = StandsInRoom state room (HasDropping host writer false)
Owes state caller (SyncDropping room host writer is_log) = StandsInRoom state room (HasDropping host writer is_log)
Owes state caller (Mend room host writer count) = IsNotLive state writer × StandsInRoom state room (MayMend host writer count)
Owes state caller (MendMeta room host cover last) = IsNotLive state cover.writer × StandsInRoom state room (MayMendMeta host cover last)
Owes state caller (Bury room host writer) = IsNotLive state writer × (writer ≤ last_id state) × InRoom state room (MayBury host writer)
Owes state caller call = Unit {0}

-- nothing is owed of the state for this call
abbrev pub OwesNothing : Call → Type 0
OwesNothing (Mark holder size top) = ⊥
OwesNothing (PutFlat flat bytes) = ⊥
OwesNothing (StartPack room host writer) = ⊥
OwesNothing (SyncDropping room host writer is_log) = ⊥
OwesNothing (Mend room host writer count) = ⊥
OwesNothing (MendMeta room host cover last) = ⊥
OwesNothing (Bury room host writer) = ⊥
OwesNothing call = Unit {0}

-- The caller owes no more than it meets: what is owed in every state, and of a clean one what the call needs there. It
-- is owed of a call that is broken off too.
pub record May (state : State) (caller : ℕ) (ask : Ask) : Type 0 where
  pub numbers : IsOwed ask
  pub owes : IsClean state → Owes state caller ask.call

-- no caller owed more than it met
abbrev pub AreAllowed : State → List Event → Type 0
AreAllowed start [] = Unit {0}
AreAllowed start (event ∷ events) = May start event.caller event.ask × AreAllowed event.after events

-- each event is a step from the state before it, and its caller owed no more than it met
abbrev pub IsLawful : State → List Event → Type 0
IsLawful start [] = Unit {0}
IsLawful start (event ∷ events) = May start event.caller event.ask × IsStep start event.caller event.ask event.reply event.after × IsLawful event.after events

-- the state is fine, and the caller owes no more than it meets
abbrev pub Permits : State → ℕ → Ask → Type 0
Permits state caller ask = IsFine state × May state caller ask
