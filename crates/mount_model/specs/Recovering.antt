-- What writers left that are gone is synced and mended, and they are buried.
use Rattle.std.specs.Prelude.{◌≡◌, ℕ, ◌*◌, ◌^◌, ◌<◌, List, [], Bool, true, false, Option, Some, None, Ok, if◌then◌else◌}
use Rattle.plfs_types.specs.declared.entries.Cover.{Cover}
use Rattle.plfs_types.specs.declared.limits.TheConstants.{ENTRY_SIZE}
use Rattle.store_api.specs.declared.step.Answer.TheVariants.{Made, Old, Absent, NoFolder}
use Rattle.store_api.specs.Step.{Step, create, cut, make_folder, remove, sync}
use Rattle.mount_model.specs.declared.row.Row.{Row}
use Rattle.mount_model.specs.declared.row.Holder.{Holder}
use Rattle.mount_model.specs.declared.reply.Reply.{Reply}
use Rattle.mount_model.specs.declared.reply.Reply.TheVariants.{Done, Mended}
use Rattle.mount_model.specs.declared.reply.Refusal.{Refusal}
use Rattle.mount_model.specs.declared.reply.Refusal.TheVariants.{Alive, Held}
use Rattle.mount_model.specs.Paths.{Name, metadata, dropping_path, index_path, meta_path, open_path}
use Rattle.container_layout.specs.Paths.{openhosts}
use Rattle.mount_model.specs.Table.{row_of, is_live, is_held_room}
use Rattle.mount_model.specs.State.{State, Table}
use Rattle.mount_model.specs.Making.{Told, CallOutcome, says, otherwise, MakesAct, room_check, or_reason, UnlessRefused}

-- the numbers of a writer's files
pub record IsHostAndWriter (host writer : ℕ) : Type 0 where
  pub host_fits : host < 2 ^ 32
  pub writer_fits : writer < 2 ^ 64

-- the act was made, or it is done as the call says
abbrev pub done_outcome : Name → Name → Table → Told → CallOutcome
done_outcome folder file table (Ok Made) = says Done table
done_outcome folder file table told = says (otherwise folder file told) table

-- ---- a dropping is synced

abbrev pub sync_dropping_step : ℕ → ℕ → ℕ → Bool → Step
sync_dropping_step room host writer is_log = sync room (dropping_path is_log host writer).folder (dropping_path is_log host writer).file

pub record SyncsIt (room host writer : ℕ) (is_log : Bool) (old : State) (reply : Reply) (new : State) : Type 0 where
  pub named : IsHostAndWriter host writer
  pub makes : MakesAct (sync_dropping_step room host writer is_log) (done_outcome (dropping_path is_log host writer).folder (dropping_path is_log host writer).file old.table) old reply new

abbrev pub SyncsDropping : ℕ → ℕ → ℕ → Bool → State → Reply → State → Type 0
SyncsDropping room host writer is_log old reply new = UnlessRefused (room_check old room) old reply new (SyncsIt room host writer is_log old reply new)

-- ---- a writer that isn't live

abbrev pub live_reason : Option Row → Option Refusal
live_reason None = None
live_reason (Some row) = if is_live row.stage then Some Alive else None

abbrev pub alive_check : State → ℕ → Option Refusal
alive_check old writer = live_reason (row_of writer old.table.writers)

abbrev pub Inspects : ℕ → State → Reply → State → Type 0
Inspects writer old reply new = UnlessRefused (alive_check old writer) old reply new ((reply ≡ Done) × (new ≡ old))

-- the room is a container, and the writer isn't live
abbrev pub mend_check : State → ℕ → ℕ → Option Refusal
mend_check old room writer = or_reason (room_check old room) (alive_check old writer)

abbrev pub mend_step : ℕ → ℕ → ℕ → ℕ → Step
mend_step room host writer count = cut room (index_path host writer).folder (index_path host writer).file (ENTRY_SIZE * count)

pub record MendsIt (room host writer count : ℕ) (old : State) (reply : Reply) (new : State) : Type 0 where
  pub named : IsHostAndWriter host writer
  pub makes : MakesAct (mend_step room host writer count) (done_outcome (index_path host writer).folder (index_path host writer).file old.table) old reply new

abbrev pub Mends : ℕ → ℕ → ℕ → ℕ → State → Reply → State → Type 0
Mends room host writer count old reply new = UnlessRefused (mend_check old room writer) old reply new (MendsIt room host writer count old reply new)

-- the name of the metadata dropping that the cover and the greatest end tell
abbrev pub mended_file : ℕ → Cover → ℕ → Name
mended_file host cover last = (meta_path last cover.bytes cover.stamp host cover.writer).file

abbrev pub mend_meta_step : ℕ → ℕ → Cover → ℕ → Step
mend_meta_step room host cover last = create room metadata (mended_file host cover last)

-- it may have been made before
abbrev pub mend_meta_outcome : Name → Table → Told → CallOutcome
mend_meta_outcome file table (Ok Made) = says Done table
mend_meta_outcome file table (Ok (Old room)) = says Done table
mend_meta_outcome file table told = says (otherwise metadata file told) table

pub record MendsItsMeta (room host : ℕ) (cover : Cover) (last : ℕ) (old : State) (reply : Reply) (new : State) : Type 0 where
  pub named : IsHostAndWriter host cover.writer
  pub makes : MakesAct (mend_meta_step room host cover last) (mend_meta_outcome (mended_file host cover last) old.table) old reply new

abbrev pub MendsMeta : ℕ → ℕ → Cover → ℕ → State → Reply → State → Type 0
MendsMeta room host cover last old reply new = UnlessRefused (mend_check old room cover.writer) old reply new (MendsItsMeta room host cover last old reply new)

abbrev pub bury_step : ℕ → ℕ → ℕ → Step
bury_step room host writer = remove room openhosts (open_path host writer).file

-- it may have been buried before
abbrev pub bury_outcome : Name → Table → Told → CallOutcome
bury_outcome file table (Ok Made) = says Done table
bury_outcome file table (Ok Absent) = says Done table
bury_outcome file table (Ok NoFolder) = says Done table
bury_outcome file table told = says (otherwise openhosts file told) table

pub record BuriesIt (room host writer : ℕ) (old : State) (reply : Reply) (new : State) : Type 0 where
  pub named : IsHostAndWriter host writer
  pub makes : MakesAct (bury_step room host writer) (bury_outcome (open_path host writer).file old.table) old reply new

abbrev pub Buries : ℕ → ℕ → ℕ → State → Reply → State → Type 0
Buries room host writer old reply new = UnlessRefused (mend_check old room writer) old reply new (BuriesIt room host writer old reply new)

-- ---- a hold that broke off

abbrev pub held_reason : ℕ → List Holder → Option Refusal
held_reason room holders = if is_held_room room holders then Some Held else None

abbrev pub mend_hold_check : State → ℕ → Option Refusal
mend_hold_check old room = or_reason (room_check old room) (held_reason room old.table.holders)

abbrev pub mend_hold_step : ℕ → Step
mend_hold_step room = make_folder room openhosts

abbrev pub mend_hold_outcome : Table → Told → CallOutcome
mend_hold_outcome table (Ok Made) = says (Mended true) table
mend_hold_outcome table (Ok (Old room)) = says (Mended false) table
mend_hold_outcome table told = says (otherwise openhosts [] told) table

abbrev pub MendsHold : ℕ → State → Reply → State → Type 0
MendsHold room old reply new = UnlessRefused (mend_hold_check old room) old reply new
    (MakesAct (mend_hold_step room) (mend_hold_outcome old.table) old reply new)
