-- What holds of the table in every state, whatever the store does.
use Rattle.std.specs.Prelude.{◌≡◌, ◌≢◌, ◌⊎◌, ℕ, ◌+◌, ◌^◌, ◌≤◌, ◌<◌, List, [], ◌∷◌, length, map}
use Rattle.std.specs.List.{All}
use Rattle.plfs_types.specs.declared.limits.TheConstants.{MAX_LOG, MAX_SIZE, MAX_STAMP}
use Rattle.index_entry.specs.Valid.{IsValidEntry}
use Rattle.mount_model.specs.declared.row.Row.{Row}
use Rattle.mount_model.specs.declared.row.Holder.{Holder}
use Rattle.mount_model.specs.declared.row.Flattening.{Flattening}
use Rattle.mount_model.specs.State.{State, id_of}

-- a writer's numbers are in their ranges, and every entry has a byte
pub record IsCounted (row : Row) : Type 0 where
  pub host_fits : row.host < 2 ^ 32
  pub some_cap : 1 ≤ row.pending.capacity
  pub cap_fits : row.pending.capacity ≤ 4096
  pub within_cap : length row.pending.entries ≤ row.pending.capacity
  pub valid : All IsValidEntry row.pending.entries
  pub entries : row.landed + length row.pending.entries ≤ row.stored
  -- what was synced was stored, or had landed
  pub log_marked : row.log_mark ≤ row.stored
  pub index_marked : row.index_mark ≤ row.landed
  pub stored_fits : row.stored ≤ MAX_LOG
  pub end_fits : row.end ≤ MAX_SIZE
  pub last_fits : row.last ≤ MAX_STAMP
  pub floor_fits : row.floor ≤ MAX_STAMP
  -- it has written or not
  pub written : ((row.stored ≡ 0) × (row.end ≡ 0) × (row.last ≡ 0)) ⊎ ((0 < row.stored) × (0 < row.end) × (0 < row.last))

-- each id is below those after it
abbrev pub AreAscending : List Row → Type 0
AreAscending [] = Unit {0}
AreAscending (row ∷ rows) = All (λ (later : Row). row.id < later.id) rows × AreAscending rows

-- the id is of a serial of this mount, up to the last one that it drew
abbrev pub IsOfSerial : ℕ → ℕ → ℕ → Type 0
IsOfSerial mount last id = (serial : ℕ) × (1 ≤ serial) × (serial ≤ last) × (id ≡ id_of mount serial)

abbrev pub IsDrawn : State → ℕ → Type 0
IsDrawn state id = IsOfSerial state.mount state.serial id

abbrev pub Ascend : List ℕ → Type 0
Ascend [] = Unit {0}
Ascend (number ∷ numbers) = All (λ later. number < later) numbers × Ascend numbers

-- these numbers ascend and were drawn, for rooms other than that of the marks
pub record AreDrawn (mount last marks : ℕ) (numbers rooms : List ℕ) : Type 0 where
  pub ascending : Ascend numbers
  pub drawn : All (IsOfSerial mount last) numbers
  pub apart : All (λ room. room ≢ marks) rooms

abbrev pub AreHolders : ℕ → ℕ → ℕ → List Holder → Type 0
AreHolders mount last marks holders = AreDrawn mount last marks (map (λ (h : Holder). h.number) holders) (map (λ (h : Holder). h.room) holders)

abbrev pub AreFlattenings : ℕ → ℕ → ℕ → List Flattening → Type 0
AreFlattenings mount last marks flattenings = AreDrawn mount last marks (map (λ (f : Flattening). f.id) flattenings) (map (λ (f : Flattening). f.room) flattenings)

pub record IsRegular (state : State) : Type 0 where
  pub mount_fits : state.mount < 2 ^ 32
  pub serial_fits : state.serial < 2 ^ 32
  pub counted : All IsCounted state.table.writers
  pub ascending : AreAscending state.table.writers
  pub drawn : All (λ (row : Row). IsDrawn state row.id) state.table.writers
  -- no writer is in the room of the mounts' marks
  pub apart : All (λ (row : Row). row.room ≢ state.marks) state.table.writers
  -- nor who holds a room or flattens
  pub holders : AreHolders state.mount state.serial state.marks state.table.holders
  pub flattenings : AreFlattenings state.mount state.serial state.marks state.table.flattenings
