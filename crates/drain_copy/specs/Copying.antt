-- The steps that copy what is due of each writer, and last the truncates.
use Rattle.std.specs.Prelude.{ℕ, zero, suc, ◌+◌, ◌-◌, ◌*◌, ◌/◌, ◌%◌, ◌^◌, ◌&&◌, nat_le, nat_lt, min, Bool, if◌then◌else◌, List, [], ◌∷◌, length, take, drop, Result, Ok, Err, Option, Some, None}
use Rattle.plfs_types.specs.declared.entries.Entry.{Entry}
use Rattle.plfs_types.specs.declared.entries.Trunc.{Trunc}
use Rattle.plfs_types.specs.declared.limits.TheConstants.{ENTRIES_A_READ, ENTRY_SIZE, MAX_SIZE, MAX_STAMP}
use Rattle.plfs_types.specs.declared.names.Path.{Path}
use Rattle.container_layout.specs.Paths.{hostdir_of}
use Rattle.store_api.specs.Step.{create, make_folder, sync, write_at}
use Rattle.index_entry.specs.Spelling.{spelling_all}
use Rattle.mount_model.specs.FlowReplies.{bytes_in, damage, trouble}
use Rattle.mount_model.specs.declared.call.Call.TheVariants.{Look}
use Rattle.mount_model.specs.declared.call.Look.TheVariants.{Read}
use Rattle.mount_model.specs.declared.reply.Reply.{Reply}
use Rattle.mount_model.specs.Paths.{index_path, log_path, open_path, trunc_path, truncs}
use Rattle.drain_copy.specs.declared.outcome.Drained.{Drained}
use Rattle.drain_copy.specs.declared.parts.TheConstants.{LOG_PART}
use Rattle.drain_copy.specs.declared.outcome.DrainStuck.{DrainStuck}
use Rattle.drain_copy.specs.declared.outcome.DrainStuck.TheVariants.{Source}
use Rattle.drain_copy.specs.declared.plan.Copying.{Copying}
use Rattle.drain_copy.specs.declared.plan.Due.{Due}
use Rattle.drain_copy.specs.Asking.{acts, calls, ends}
use Rattle.drain_copy.specs.Telling.{DrainsOn, entry_made, folder_alone, made_now, made_or_old, on_good, told_well}

-- ---- the truncates

-- these are numbers of a truncate
abbrev pub is_trunc : Trunc → Bool
is_trunc t = nat_lt 0 t.stamp && (nat_le t.stamp MAX_STAMP && nat_le t.size MAX_SIZE)

-- Its dropping. No listing tells other numbers; they would have the folder of truncates alone.
abbrev pub trunc_file : Trunc → Path
trunc_file t = if is_trunc t then trunc_path t.stamp t.size else record { folder = truncs; file = [] }

abbrev pub puts_truncs : ℕ → List Trunc → Drained → DrainsOn
puts_truncs to [] drained = ends (Ok drained)
puts_truncs to (t ∷ ts) drained = acts
    (create to (trunc_file t).folder (trunc_file t).file)
    (λ told. on_good (λ made. puts_truncs to ts drained) (told_well (trunc_file t) made_or_old told))

-- ---- parts of bounded size

-- how many parts of this size so much takes
abbrev pub parts_of : ℕ → ℕ → ℕ
parts_of size left = left / size + min (left % size) 1

-- the place of an entry in an index dropping, which has fewer than 2^64 bytes
abbrev pub entry_place : ℕ → ℕ → ℕ
entry_place count behind = min (ENTRY_SIZE * min (count + behind) (2 ^ 64 - 1)) (2 ^ 64 - 1)

-- the entries of one part, where so many are left
abbrev pub entries_part : List Entry → ℕ → List Entry
entries_part entries left = take (min left ENTRIES_A_READ) (drop (length entries - left) entries)

-- The bytes that a Read of a part gave; a log that is shorter than its entries tell is damage where it ends.
abbrev pub whole_part : Path → ℕ → ℕ → List ℕ → Result (List ℕ) DrainStuck
whole_part log at len bytes = if nat_lt (length bytes) len then Err (Source (damage log (at + length bytes))) else Ok bytes

abbrev pub given_part : Path → ℕ → ℕ → Reply → Option (List ℕ) → Result (List ℕ) DrainStuck
given_part log at len reply None = Err (Source (trouble log reply))
given_part log at len reply (Some bytes) = whole_part log at len bytes

abbrev pub part_told : Path → ℕ → ℕ → Reply → Result (List ℕ) DrainStuck
part_told log at len reply = given_part log at len reply (bytes_in reply)

-- ---- one writer, and then those that are left

-- which of its files
abbrev pub log_of : Due → Path
log_of due = log_path due.host due.writer

abbrev pub index_of : Due → Path
index_of due = index_path due.host due.writer

abbrev pub entry_of : Due → Path
entry_of due = open_path due.host due.writer

-- its index dropping is synced
abbrev pub syncs_index : DrainsOn → Copying → DrainsOn
syncs_index next c = acts (sync c.to (index_of c.due).folder (index_of c.due).file) (λ told. on_good (λ made. next) (told_well (index_of c.due) made_now told))

-- its entries are written from the landed ones on, so many of them being left, by so many parts
abbrev pub writes_index : DrainsOn → ℕ → Copying → ℕ → DrainsOn
writes_index next zero c left = syncs_index next c
writes_index next (suc n) c left = acts
    (write_at c.to (index_of c.due).folder (index_of c.due).file (entry_place c.due.count (length c.due.entries - left)) (spelling_all (entries_part c.due.entries left)))
    (λ told. on_good (λ made. writes_index next n c (left - min left ENTRIES_A_READ)) (told_well (index_of c.due) made_now told))

abbrev pub writes_entries : DrainsOn → Copying → DrainsOn
writes_entries next c = writes_index next (parts_of ENTRIES_A_READ (length c.due.entries)) c (length c.due.entries)

-- its log is synced, so that no loss of power keeps an entry without its bytes
abbrev pub syncs_log : DrainsOn → Copying → DrainsOn
syncs_log next c = acts (sync c.to (log_of c.due).folder (log_of c.due).file) (λ told. on_good (λ made. writes_entries next c) (told_well (log_of c.due) made_now told))

-- Its log's bytes, of which so many are left, are read at the source and written from the end of the target's log on, by so many
-- parts.
abbrev pub copies_log : DrainsOn → ℕ → Copying → ℕ → DrainsOn
copies_log next zero c left = syncs_log next c
copies_log next (suc n) c left = calls
    (Look c.from (Read (log_of c.due) (c.due.bytes - left) (min left LOG_PART)))
    (λ reply. on_good
    (λ bytes. acts
    (write_at c.to (log_of c.due).folder (log_of c.due).file (c.due.bytes - left) bytes)
    (λ told. on_good (λ made. copies_log next n c (left - min left LOG_PART)) (told_well (log_of c.due) made_now told)))
    (part_told (log_of c.due) (c.due.bytes - left) (min left LOG_PART) reply))

abbrev pub copies_bytes : DrainsOn → Copying → DrainsOn
copies_bytes next c = copies_log next (parts_of LOG_PART (c.due.bytes - c.due.log)) c (c.due.bytes - c.due.log)

-- its log is made
abbrev pub makes_log : DrainsOn → Copying → DrainsOn
makes_log next c = acts (create c.to (log_of c.due).folder (log_of c.due).file) (λ told. on_good (λ made. copies_bytes next c) (told_well (log_of c.due) made_or_old told))

-- its index dropping is made
abbrev pub makes_index : DrainsOn → Copying → DrainsOn
makes_index next c = acts (create c.to (index_of c.due).folder (index_of c.due).file) (λ told. on_good (λ made. makes_log next c) (told_well (index_of c.due) made_or_old told))

-- the folder of its droppings is made
abbrev pub makes_hostdir : DrainsOn → Copying → DrainsOn
makes_hostdir next c = acts (make_folder c.to (hostdir_of c.due.host)) (λ told. on_good (λ made. makes_index next c) (told_well (folder_alone (hostdir_of c.due.host)) made_or_old told))

-- its entry among those that have the container open is made
abbrev pub copies_writer : DrainsOn → Copying → DrainsOn
copies_writer next c = acts (create c.to (entry_of c.due).folder (entry_of c.due).file) (λ told. on_good (λ made. makes_hostdir next c) (entry_made (entry_of c.due) told))

-- the writers that are left, and then the truncates
abbrev pub copies : ℕ → ℕ → List Trunc → Drained → List Due → DrainsOn
copies from to truncs drained [] = puts_truncs to truncs drained
copies from to truncs drained (due ∷ rest) = copies_writer (copies from to truncs drained rest) (record { from = from; to = to; due = due })
